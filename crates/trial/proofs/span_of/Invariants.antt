-- `trial::span_of` meets its contract. The invariant: nothing is moved from i on. Assumes nothing.
use mathlib.Core.Path.{◌≡◌}
use mathlib.Core.List.{[]}
use Prim.Native.Nat.{◌≤◌}
use Rattle.trial.specs.Spans.{moved_at}
use Rattle.trial.proofs.span_of.Given as goal

abbrev pub invariant-loop-i : goal.invariant-loop-i
invariant-loop-i l = (l.first ≤ l.i) × (moved_at l.i l.row ≡ [])
