-- A list whose numbers rise, each above the one before it: one test along the list, and what it gives at each place. Assumes nothing.
use mathlib.Core.Path.{◌≡◌}
use mathlib.Core.Bool.{Bool, true, ◌&&◌}
use mathlib.Core.List.{List, [], ◌∷◌}
use mathlib.Core.Logic.{⊎_elim}
use Prim.Native.Nat.{ℕ, zero, suc, ◌<◌}
use native.Mathlib.Nat.{not-suc-le-zero, le_of_suc-le-suc}
use native.Mathlib.Omega.{arith}
use borrow.Author.Tests.{ltb-true}
use lib.ListN.{length, get_or}
use lib.Dec.{ltb}
use Rattle.lists.proofs.Cases.{and_l, and_r, lt-or-le}

-- the first above `low`, each above the one before it, the last below `top`
abbrev pub climbs : ℕ → List ℕ → ℕ → Bool
climbs low [] top = ltb low top
climbs low (x ∷ l) top = ltb low x && climbs x l top

module _ (top : ℕ) where
  first : (low x : ℕ) (l : List ℕ) → climbs low (x ∷ l) top ≡ true → low < x
  first low x l e = ltb-true low x (and_l (ltb low x) (climbs x l top) e)

  rest : (low x : ℕ) (l : List ℕ) → climbs low (x ∷ l) top ≡ true → climbs x l top ≡ true
  rest low x l e = and_r (ltb low x) (climbs x l top) e

  pub above : (low : ℕ) (l : List ℕ) → climbs low l top ≡ true → (i : ℕ) → i < length l → low < get_or l i 0
  above low [] e i h = absurd (not-suc-le-zero h)
  above low (x ∷ l) e zero h = first low x l e
  above low (x ∷ l) e (suc i) h = omega (arith, first low x l e, above x l (rest low x l e) i (le_of_suc-le-suc h))

  pub low_below : (low : ℕ) (l : List ℕ) → climbs low l top ≡ true → low < top
  low_below low [] e = ltb-true low top e
  low_below low (x ∷ l) e = omega (arith, first low x l e, low_below x l (rest low x l e))

  pub below : (low : ℕ) (l : List ℕ) → climbs low l top ≡ true → (i : ℕ) → i < length l → get_or l i 0 < top
  below low [] e i h = absurd (not-suc-le-zero h)
  below low (x ∷ l) e zero h = low_below x l (rest low x l e)
  below low (x ∷ l) e (suc i) h = below x l (rest low x l e) i (le_of_suc-le-suc h)

  order : (low : ℕ) (l : List ℕ) → climbs low l top ≡ true → (i j : ℕ) → i < j → j < length l → get_or l i 0 < get_or l j 0
  order low [] e i j h k = absurd (not-suc-le-zero k)
  order low (x ∷ l) e i zero h k = absurd (not-suc-le-zero h)
  order low (x ∷ l) e zero (suc j) h k = above x l (rest low x l e) j (le_of_suc-le-suc k)
  order low (x ∷ l) e (suc i) (suc j) h k = order x l (rest low x l e) i j (le_of_suc-le-suc h) (le_of_suc-le-suc k)

  pub one_place : (low : ℕ) (l : List ℕ) → climbs low l top ≡ true → (i j : ℕ) → i < length l → j < length l → get_or l i 0 ≡ get_or l j 0 → i ≡ j
  one_place low l e i j h k q =
      ⊎_elim
      (λ s. absurd (omega (arith, order low l e i j s k)))
      (λ s. ⊎_elim (λ t. absurd (omega (arith, order low l e j i t h))) (λ t. omega arith) (lt-or-le j i))
      (lt-or-le i j)
