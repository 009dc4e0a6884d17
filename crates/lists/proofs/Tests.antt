-- The tests of lists: of a list's members, and two tests that are the same on a list. Assumes nothing.
use mathlib.Core.Path.{◌≡◌, refl}
use mathlib.Core.Bool.{Bool, true}
use mathlib.Core.List.{List, [], ◌∷◌, Memᴰ}
use Rattle.lists.specs.Tests.{any_of, all_of}
use Rattle.lists.proofs.Cases.{and_l, and_r, and_both}

module _ {A : Type 0} (q : A → Bool) where
  pub all-mem : {x : A} {l : List A} → Memᴰ x l → all_of q l ≡ true → q x ≡ true
  unfolding all_of
  all-mem (Memᴰ.head {x = y} {xs = l} e) h = rw e (and_l (q y) (all_of q l) h)
  all-mem (Memᴰ.tail {x = y} {xs = l} m) h = all-mem m (and_r (q y) (all_of q l) h)

  pub mem-all : (l : List A) → ((x : A) → Memᴰ x l → q x ≡ true) → all_of q l ≡ true
  unfolding all_of
  mem-all [] f = refl
  mem-all (x ∷ l) f = and_both (f x (Memᴰ.head refl)) (mem-all l (λ y m. f y (Memᴰ.tail m)))

-- two tests that are the same where a third holds
module _ {A : Type 0} (p q r : A → Bool) (same : (x : A) → p x ≡ true → q x ≡ r x) where
  pub any_same : (l : List A) → all_of p l ≡ true → any_of q l ≡ any_of r l
  unfolding any_of all_of
  any_same [] e = refl
  any_same (x ∷ l) e = rw (same x (and_l (p x) (all_of p l) e), any_same l (and_r (p x) (all_of p l) e))

  pub all_same : (l : List A) → all_of p l ≡ true → all_of q l ≡ all_of r l
  unfolding all_of
  all_same [] e = refl
  all_same (x ∷ l) e = rw (same x (and_l (p x) (all_of p l) e), all_same l (and_r (p x) (all_of p l) e))
