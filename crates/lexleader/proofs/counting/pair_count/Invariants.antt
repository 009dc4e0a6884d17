-- `lexleader::counting::pair_count` meets its contract. The invariant: those without a mark are those counted and those of the marks that are left.
-- Assumes nothing.
use mathlib.Core.Path.{◌≡◌}
use Prim.Native.Nat.{◌+◌, ◌≤◌}
use lib.ListN.{drop}
use Rattle.cycles.specs.Marks.{unmarked}
use Rattle.lexleader.proofs.counting.pair_count.Given as goal

abbrev pub invariant-loop-mark : goal.invariant-loop-mark
invariant-loop-mark l = (l.count ≤ l.mark-index) × (unmarked l.marks ≡ l.count + unmarked (drop l.mark-index l.marks))
