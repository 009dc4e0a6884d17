-- `symmetry::is_image` meets its contract. The invariant: the answer is whether the literals left are among those that have the mark. Assumes nothing.
use mathlib.Core.Path.{◌≡◌}
use mathlib.Core.List.{List}
use Prim.Native.Nat.{ℕ}
use lib.ListN.{drop}
use Rattle.lists.specs.Tests.{all_of, has}
use Rattle.symmetry.specs.Sets.{same_set}
use Rattle.symmetry.specs.Sought.{Sought}
use Rattle.symmetry.proofs.is_image.Given as goal

abbrev pub invariant-loop-code : goal.invariant-loop-code
invariant-loop-code l = (image : List ℕ) → Sought l.mark l.marks image → same_set image l.clause ≡ all_of (has image) (drop l.code-index l.clause)
