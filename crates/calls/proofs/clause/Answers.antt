-- `calls::clause` meets its contract: 20 and 21 are tried, and then the line is written. Assumes nothing.
use Rattle.std.proofs.Common.{refl}
use Rattle.standing.proofs.StandingLaws.{admitted-is, stands}
use Rattle.calls.specs.Calls.{clause_says, clause_leaves}
use Rattle.calls.proofs.clause.Goals as goal

pub returns : goal.returns
unfolding clause_says clause_leaves
returns c =
    rw (stands _ c.in_ok-store.ensures, ← admitted-is _ c.in_ok-store.ensures, ← c.clause.ensures.answer)
    (record { says = refl; leaves = c.clause.ensures.buffer })
