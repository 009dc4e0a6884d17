-- `program::clauses` meets its contract: the page holds the clauses that fit. Assumes nothing.
use mathlib.Core.Path.{sym}
use native.Mathlib.Omega.{arith}
use lib.Seq.{length-take-le}
use Rattle.store.specs.Held.{store_of}
use Rattle.program.proofs.ProgramLaws.{clauses-step}
use Rattle.program.proofs.clauses.Goals as goal

pub slice_bounds-marks-end : goal.slice_bounds-marks-end
slice_bounds-marks-end c = omega (arith, c.args.s.rows.formed.small)

pub slice_bounds-fill-end : goal.slice_bounds-fill-end
slice_bounds-fill-end c = sym (length-take-le _ _ (omega (arith, c.args.s.rows.formed.small)))

pub fill-filled-requires : goal.fill-filled-requires
fill-filled-requires c = (c.requires.0.1, length-take-le _ _ (omega (arith, c.args.s.rows.formed.small)))

pub returns : goal.returns
returns c =
    clauses-step (store_of c.args.s) c.args.s.formed c.args.cursor _ _ _ _ c.fill-filled.ensures.filled c.fill-filled.ensures.stands (λ none. c.fill-filled.ensures.moves c.requires.1 none)
