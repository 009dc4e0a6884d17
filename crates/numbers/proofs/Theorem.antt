-- "The team picks the 1,024 numbers, no two alike and none 0" (document 02, CR 5): by one test along the table, which the checker computes, and a second one for their last
-- bits. Assumes nothing.
use mathlib.Core.Path.{◌≡◌, refl}
use mathlib.Core.Bool.{Bool, true}
use Prim.Native.Nat.{ℕ, ◌%◌, ◌^◌}
use native.Mathlib.Omega.{arith}
use borrow.Author.Tests.{eqb-true}
use lib.ListN.{length, get_or}
use lib.Dec.{eqb}
use Rattle.lists.specs.Tests.{all_of}
use Rattle.lists.proofs.Members.{all-at}
use Rattle.numbers.specs.Numbers.{number_count, count_range, numbers, WellChosen}
use Rattle.numbers.proofs.Climbing.{climbs, above, below, one_place}

pub all-numbers : length numbers ≡ number_count
unfolding numbers
all-numbers = refl

they-climb : climbs 0 numbers (2 ^ 64) ≡ true
unfolding numbers
they-climb = refl

counts-one : ℕ → Bool
counts-one x = eqb (x % count_range) 1

they-count : all_of counts-one numbers ≡ true
unfolding numbers all_of counts-one
they-count = refl

each : (i : ℕ) → counts-one (get_or numbers i 0) ≡ true → get_or numbers i 0 % count_range ≡ 1
unfolding counts-one
each i e = eqb-true (get_or numbers i 0 % count_range) 1 e

pub well-chosen : WellChosen numbers
well-chosen = record {
  count = all-numbers;
  no-two-alike = λ i j h k e. one_place (2 ^ 64) 0 numbers they-climb i j (rw all-numbers h) (rw all-numbers k) e;
  none-0 = λ i h e. omega (arith, above (2 ^ 64) 0 numbers they-climb i (rw all-numbers h));
  fit = λ i h. below (2 ^ 64) 0 numbers they-climb i (rw all-numbers h);
  each_counts = λ i h. each i (all-at counts-one numbers 0 they-count i (rw all-numbers h));
}
