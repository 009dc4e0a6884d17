-- The laws of sums over lists. Assumes nothing.
use mathlib.Core.Path.{◌≡◌}
use mathlib.Core.Bool.{Bool, true}
use mathlib.Core.List.{List, [], ◌∷◌, ◌++◌}
use Prim.Native.Nat.{ℕ, ◌+◌, ◌*◌, ◌≤◌, ◌<◌}
use native.Mathlib.Nat.{mul-suc}
use native.Mathlib.Omega.{arith}
use lib.ListN.{length, get_or, drop, drop_of_length-le}
use Rattle.lists.specs.Tests.{all_of}
use Rattle.lists.specs.Sums.{sum_of}
use Rattle.lists.proofs.Cases.{and_l, and_r}
use Rattle.lists.proofs.Steps.{drop-step}

module _ {A : Type 0} (f : A → ℕ) where
  pub sum-append : (a b : List A) → sum_of f (a ++ b) ≡ sum_of f a + sum_of f b
  unfolding sum_of
  sum-append [] b = omega arith
  sum-append (x ∷ a) b = omega (arith, sum-append a b)

  -- at most k for each element, where a test says so
  pub sum-most : (k : ℕ) (q : A → Bool) → ((x : A) → q x ≡ true → f x ≤ k) → (l : List A) → all_of q l ≡ true → sum_of f l ≤ k * length l
  unfolding sum_of all_of
  sum-most k q most [] all = omega arith
  sum-most k q most (x ∷ l) all =
      omega (arith, most x (and_l (q x) (all_of q l) all), sum-most k q most l (and_r (q x) (all_of q l) all), mul-suc k (length l))

  -- a loop over the list at index i
  module _ (l : List A) (i : ℕ) where
    pub sum_step : (d : A) → i < length l → sum_of f (drop i l) ≡ f (get_or l i d) + sum_of f (drop (i + 1) l)
    unfolding sum_of
    sum_step d h = rw (drop-step l i d h)

    pub sum-end : length l ≤ i → sum_of f (drop i l) ≡ 0
    unfolding sum_of
    sum-end h = rw (drop_of_length-le l {i = i} h)
