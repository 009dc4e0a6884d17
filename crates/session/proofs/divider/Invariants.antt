-- `session::divider` meets its contract. The invariant: the first line that is just `%` is among those from `at` on. Assumes nothing.
use mathlib.Core.Path.{◌≡◌}
use Prim.Native.Nat.{◌-◌}
use lib.ListN.{length}
use Rattle.dimacs.specs.Lines.{lines_at}
use Rattle.session.specs.Input.{from_divider}
use Rattle.session.proofs.divider.Given as goal

abbrev pub invariant-loop-at : goal.invariant-loop-at
invariant-loop-at l = from_divider (lines_at l.input 0) ≡ from_divider (lines_at l.input l.at)

abbrev pub decreases-loop-at : goal.decreases-loop-at
decreases-loop-at l = length l.input - l.at
