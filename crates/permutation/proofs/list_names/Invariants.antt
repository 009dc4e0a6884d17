-- `permutation::list_names` meets its contract. The invariant: the names before `at` are listed and marked, and the line's first bad name is the
-- first from `at` on (`Listing`). Assumes nothing.
use Prim.Native.Nat.{◌-◌}
use lib.ListN.{length}
use Rattle.permutation.proofs.Listing.{Listing}
use Rattle.permutation.proofs.list_names.Given as goal

abbrev pub invariant-loop-n : goal.invariant-loop-n
invariant-loop-n l = Listing l.n l.names l.marks l.order l.count l.at

abbrev pub decreases-loop-n : goal.decreases-loop-n
decreases-loop-n l = length l.names - l.at
