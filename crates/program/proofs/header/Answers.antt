-- `program::header` meets its contract: the page is one line, and all clauses are left. Assumes nothing.
use mathlib.Core.Path.{sym}
use native.Mathlib.Omega.{arith}
use lib.Seq.{length-take-le}
use Rattle.store.specs.Held.{store_of}
use Rattle.store.proofs.Formed.{formed}
use Rattle.lexleader.proofs.MadeLaws.{counted-variables, counted-clauses}
use Rattle.cursor.proofs.CursorLaws.{start_left}
use Rattle.render.proofs.DigitLaws.{digits-most}
use Rattle.render.proofs.LineLaws.{length-header}
use Rattle.program.proofs.ProgramLaws.{header-step}
use Rattle.program.proofs.header.Goals as goal

pub totals_of-total-requires : goal.totals_of-total-requires
totals_of-total-requires c = (formed _ c.args.s.formed).clauses-fit

pub put_header-bytes-requires : goal.put_header-bytes-requires
put_header-bytes-requires c =
    let v = c.totals_of-total.result.variables in
    let m = c.totals_of-total.result.clauses in
    omega (arith, c.requires, length-header v m, digits-most v, digits-most m)

pub slice_bounds-marks-end : goal.slice_bounds-marks-end
slice_bounds-marks-end c = omega (arith, c.args.s.rows.formed.small)

pub slice_bounds-start-end : goal.slice_bounds-start-end
slice_bounds-start-end c = sym (length-take-le _ _ (omega (arith, c.args.s.rows.formed.small)))

pub start-first-requires : goal.start-first-requires
start-first-requires c = sym (slice_bounds-start-end c)

pub returns : goal.returns
returns c =
    let s = store_of c.args.s in
    let well = c.args.s.formed in
    let total = c.totals_of-total.ensures in
    header-step s well c.args.out.now c.requires _ _ _ _ (counted-variables s total) (counted-clauses s well total) c.put_header-bytes.ensures.next c.put_header-bytes.ensures.bytes c.start-first.result c.start-first.ensures.stands
    (start_left s c.start-first.result c.start-first.ensures.remaining)
