-- The laws of a list as a table. Assumes nothing.
use mathlib.Core.Path.{◌≡◌, refl, ap}
use mathlib.Core.List.{List, [], ◌∷◌, ◌++◌}
use Prim.Native.Nat.{ℕ, zero, suc, ◌<◌}
use native.Mathlib.Nat.{not-suc-le-zero, le_of_suc-le-suc}
use lib.ListN.{length, get_or}
use Rattle.lists.specs.Tables.{table}

pub length-table {ℓ} : {A : Type ℓ} (n : ℕ) (f : ℕ → A) → length (table n f) ≡ n
unfolding table
length-table zero f = refl
length-table (suc n) f = ap suc (length-table n (λ k. f (suc k)))

pub get_or-table {ℓ} : {A : Type ℓ} (n : ℕ) (f : ℕ → A) (i : ℕ) (d : A) → i < n → get_or (table n f) i d ≡ f i
unfolding table
get_or-table zero f i d h = absurd (not-suc-le-zero h)
get_or-table (suc n) f zero d h = refl
get_or-table (suc n) f (suc i) d h = get_or-table n (λ k. f (suc k)) i d (le_of_suc-le-suc h)

-- one entry more
pub table-snoc : {A : Type 0} (n : ℕ) (f : ℕ → A) → table (suc n) f ≡ table n f ++ (f n ∷ [])
unfolding table
table-snoc zero f = refl
table-snoc {A} (suc n) f = ap (λ (l : List A). f 0 ∷ l) (table-snoc n (λ k. f (suc k)))
