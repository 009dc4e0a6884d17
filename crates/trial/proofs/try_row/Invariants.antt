-- `trial::try_row` meets its contract. The invariant: the pairs at index i and after it decide as all pairs do (`Trying`). Assumes nothing.
use Prim.Native.Nat.{◌-◌, ◌≤◌}
use Rattle.trial.proofs.PairLaws.{Trying}
use Rattle.trial.proofs.try_row.Given as goal

abbrev pub invariant-loop-i : goal.invariant-loop-i
invariant-loop-i l = (l.i ≤ l.end) × Trying l.row l.values l.i

abbrev pub decreases-loop-i : goal.decreases-loop-i
decreases-loop-i l = l.end - l.i
