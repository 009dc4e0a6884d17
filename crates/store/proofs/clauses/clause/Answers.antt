-- `store::clauses::clause` meets its contract. Assumes nothing.
use Rattle.std.proofs.Common.{arith, ℕ, sym, ◌∙◌}
use mathlib.Core.Path.{ap₂}
use lib.Seq.{slice}
use Rattle.store.proofs.Cuts.{part_slice, end_is}
use Rattle.store.proofs.clauses.clause.Goals as goal

pub slice_bounds-result-count : goal.slice_bounds-result-count
slice_bounds-result-count c =
    omega (arith, c.requires.0.rise c.args.c c.requires.1, c.literal_count-start.ensures, end_is c.args.c c.args.ends.now)

pub slice_bounds-result-start : goal.slice_bounds-result-start
slice_bounds-result-start c =
    omega (arith, c.requires.0.rise c.args.c c.requires.1, c.literal_count-start.ensures, end_is c.args.c c.args.ends.now)

pub slice_bounds-result-end : goal.slice_bounds-result-end
slice_bounds-result-end c =
    omega (arith, c.requires.0.within c.args.c c.requires.1, end_is c.args.c c.args.ends.now)

pub returns : goal.returns
returns c =
    let a = c.args in
    part_slice _ _ a.literals.now (omega (arith, c.requires.0.rise a.c c.requires.1, c.literal_count-start.ensures, end_is a.c a.ends.now))
    ∙ ap₂ (λ (i j : ℕ). slice i j a.literals.now) c.literal_count-start.ensures (sym (end_is a.c a.ends.now))
