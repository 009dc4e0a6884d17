-- `calls::descend` meets its contract: 20, 21 and 12 are tried, and then the assignment descends. Assumes nothing.
use Rattle.std.proofs.Common.{refl, ap}
use Rattle.store.specs.Refusals.{done}
use Rattle.store.specs.Stores.{held_rows}
use Rattle.standing.proofs.StandingLaws.{admitted-is, stands}
use Rattle.calls.specs.Calls.{descend_says, descend_leaves}
use Rattle.calls.proofs.descend.Goals as goal

pub returns-then-not-is_assignment : goal.returns-then-not-is_assignment
unfolding descend_says descend_leaves held_rows
returns-then-not-is_assignment c =
    rw (stands _ c.in_ok-rows.ensures, ← admitted-is _ c.in_ok-rows.ensures, ← c.is_assignment.ensures, c.if-not-is_assignment.true) (record { says = refl; leaves = refl })

pub returns : goal.returns
unfolding descend_says descend_leaves held_rows
returns c =
    rw (stands _ c.in_ok-rows.ensures, ← admitted-is _ c.in_ok-rows.ensures, ← c.is_assignment.ensures, c.if-not-is_assignment.false)
    (record { says = ap done c.descend.ensures.answer; leaves = c.descend.ensures.reached })
