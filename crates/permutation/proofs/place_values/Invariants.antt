-- `permutation::place_values` meets its contract. The invariant: each value before `at` has used a name and stands in the row, and the line's first
-- bad value is the first from `at` on (`Using`). Assumes nothing.
use mathlib.Core.Path.{◌≡◌}
use Prim.Native.Nat.{◌-◌}
use mathlib.Core.List.{◌++◌}
use lib.ListN.{length, drop}
use Rattle.permutation.specs.Lines.{values_on}
use Rattle.permutation.specs.Stated.{row_of}
use Rattle.permutation.proofs.Using.{Using}
use Rattle.permutation.proofs.place_values.Given as goal

abbrev pub invariant-loop-n : goal.invariant-loop-n
invariant-loop-n l =
    Using l.n l.order l.values (row_of l.n l.order (values_on l.values) ++ drop l.n l.initial.row) l.free l.row l.used l.at × (length l.row ≡ length l.initial.row)

abbrev pub decreases-loop-n : goal.decreases-loop-n
decreases-loop-n l = length l.values - l.at
