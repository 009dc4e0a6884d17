-- `trial::first_moved` meets its contract. The invariant: nothing before i is moved. Assumes nothing.
use mathlib.Core.Path.{◌≡◌}
use Rattle.trial.specs.Spans.{moved_at}
use Rattle.trial.proofs.first_moved.Given as goal

abbrev pub invariant-loop-i : goal.invariant-loop-i
invariant-loop-i l = moved_at 0 l.row ≡ moved_at l.i l.row
