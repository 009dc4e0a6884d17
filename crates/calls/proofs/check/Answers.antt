-- `calls::check` meets its contract: 20, 21 and 12 are tried, and then the clauses. Assumes nothing.
use mathlib.Core.Path.{sym, ap, refl}
use native.Mathlib.Omega.{arith}
use lib.Seq.{length-take-le}
use Rattle.store.specs.Refusals.{done}
use Rattle.store.specs.Held.{store_of}
use Rattle.store.proofs.Formed.{formed}
use Rattle.standing.proofs.StandingLaws.{admitted-is, stands}
use Rattle.lexleader.proofs.MadeLaws.{counted-variables, counted-clauses}
use Rattle.calls.specs.Calls.{check_says}
use Rattle.calls.proofs.check.Goals as goal

pub totals_of-total-requires : goal.totals_of-total-requires
totals_of-total-requires c = (formed _ c.in_ok-store.store.formed).clauses-fit

pub returns-then-not-is_assignment : goal.returns-then-not-is_assignment
unfolding check_says
returns-then-not-is_assignment c =
    let s = store_of c.in_ok-store.store in
    rw (stands _ c.in_ok-store.ensures, ← admitted-is _ c.in_ok-store.ensures, ← counted-variables s c.totals_of-total.ensures, ← c.is_assignment.ensures, c.if-not-is_assignment.true) refl

pub slice_bounds-marks-end : goal.slice_bounds-marks-end
slice_bounds-marks-end c = omega (arith, c.in_ok-store.store.rows.formed.small)

pub slice_bounds-first_false-end : goal.slice_bounds-first_false-end
slice_bounds-first_false-end c = sym (length-take-le _ _ (omega (arith, c.in_ok-store.store.rows.formed.small)))

pub first_false-requires : goal.first_false-requires
first_false-requires c =
    let s = store_of c.in_ok-store.store in
    let total = c.totals_of-total.ensures in
    (rw (← counted-variables s total, ← c.is_assignment.ensures) c.if-not-is_assignment.false, counted-clauses s c.in_ok-store.store.formed total, sym (slice_bounds-first_false-end c))

pub returns : goal.returns
unfolding check_says
returns c =
    let s = store_of c.in_ok-store.store in
    rw (stands _ c.in_ok-store.ensures, ← admitted-is _ c.in_ok-store.ensures, ← counted-variables s c.totals_of-total.ensures, ← c.is_assignment.ensures, c.if-not-is_assignment.false) (ap done c.first_false.ensures)
