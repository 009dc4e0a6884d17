-- A loop from clause c on for the first judged clause whose image is missing: one law for each way out. Assumes nothing.
use mathlib.Core.Path.{◌≡◌, refl}
use Rattle.std.proofs.Common.{Some, None, arith, add-one}
use mathlib.Core.Bool.{true, false, or-true}
use mathlib.Core.List.{List, []}
use Prim.Native.Nat.{ℕ, zero, suc, ◌+◌, ◌≤◌, ◌<◌}
use lib.ListN.{length, get_or, drop, drop_of_length-le}
use Rattle.lists.proofs.Steps.{drop-step}
use Rattle.symmetry.specs.Judged.{has_opposites}
use Rattle.symmetry.specs.Symmetry.{has_image, missing_from, number_or_none}

module _ (row : List ℕ) (formula : List (List ℕ)) (k c : ℕ) where
  module _ (clause : List ℕ) (is : clause ≡ get_or formula c []) (h : c < length formula) where
    pub missing-here : has_image row formula clause ≡ false → has_opposites clause ≡ false → missing_from row formula k (drop c formula) ≡ k
    unfolding missing_from
    missing-here e f = rw (drop-step formula c [] h, ← is, e, f)

    abbrev Later : Type 0
    Later = missing_from row formula k (drop c formula) ≡ missing_from row formula (k + 1) (drop (c + 1) formula)

    pub found-later : has_image row formula clause ≡ true → Later
    unfolding missing_from
    found-later e = rw (drop-step formula c [] h, ← is, e, or-true)

    pub opposites-later : has_opposites clause ≡ true → Later
    unfolding missing_from
    opposites-later e = rw (drop-step formula c [] h, ← is, e)

  pub missing-end : length formula ≤ c → missing_from row formula k (drop c formula) ≡ 0
  unfolding missing_from
  missing-end h = rw (drop_of_length-le formula {i = c} h)

-- ---- the number as an answer

pub none_of : (n : ℕ) → n ≡ 0 → number_or_none n ≡ None
unfolding number_or_none
none_of n e = rw e

pub some_of : (n k : ℕ) → n ≡ k + 1 → number_or_none n ≡ Some (k + 1)
unfolding number_or_none
some_of n k e = rw (e, add-one)

-- and what an answer says of the number
pub is_none : (n : ℕ) → number_or_none n ≡ None → n ≡ 0
unfolding number_or_none
is_none zero e = refl
is_none (suc k) e = cc

pub is_some : (n k : ℕ) → number_or_none n ≡ Some k → (n ≡ k) × (n ≡ 0 → ⊥)
unfolding number_or_none
is_some zero k e = cc
is_some (suc n) k e = (cc, λ z. omega arith)
