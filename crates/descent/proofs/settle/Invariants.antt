-- `descent::settle` meets its contract. The invariant: from the assignment of the table the descent comes to what it does from the one lent (`Reached`).
-- Assumes nothing.
use mathlib.Core.Path.{◌≡◌}
use Prim.Native.Nat.{◌-◌}
use Rattle.store.specs.Held.{held_by}
use Rattle.valuation.specs.Tables.{bits_in}
use Rattle.descent.proofs.DescentLaws.{Reached}
use Rattle.descent.proofs.settle.Given as goal

abbrev pub invariant-loop-r : goal.invariant-loop-r
invariant-loop-r l =
    Reached l.rows.counts.variables l.limit (held_by l.rows) (bits_in l.rows.counts.variables l.initial.values) l.values l.moves × (l.next ≡ l.values)

abbrev pub decreases-loop-r : goal.decreases-loop-r
decreases-loop-r l = l.limit - l.moves
