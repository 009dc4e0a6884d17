-- `permutation::identity` meets its contract. The invariant: the first i images are written, and the rest is as it was. Assumes nothing.
use mathlib.Core.Path.{◌≡◌}
use mathlib.Core.List.{◌++◌}
use lib.ListN.{length, drop}
use Rattle.store.specs.Identity.{identity}
use Rattle.permutation.proofs.identity.Given as goal

abbrev pub invariant-loop-i : goal.invariant-loop-i
invariant-loop-i l = (length l.row ≡ length l.initial.row) × (l.row ≡ identity l.i ++ drop l.i l.initial.row)
