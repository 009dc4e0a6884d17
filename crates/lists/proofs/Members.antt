-- The tests of `specs/Tests.antt` turned into facts about places in a list, and back. Assumes nothing.
use mathlib.Core.Path.{◌≡◌, refl, sym, ◌∙◌}
use mathlib.Core.Bool.{Bool, true, false, ◌&&◌, or-true, and_assoc}
use mathlib.Core.List.{List, [], ◌∷◌, ◌++◌, map}
use mathlib.Core.Logic.{⊎_elim}
use Prim.Native.Nat.{ℕ, zero, suc, ◌<◌, zero-le, suc-le-suc}
use native.Mathlib.Nat.{not-suc-le-zero, le_of_suc-le-suc}
use borrow.Author.Tests.{eq-eqb, ne_eqb, eqb-true}
use lib.ListN.{length, get_or}
use lib.Dec.{eqb}
use Rattle.lists.specs.Tests.{any_of, all_of, has}
use Rattle.lists.proofs.Cases.{never, not_so, and_l, and_r, and_both, or_cases, eq-or-ne}

-- some element passes
pub any_at : {A : Type 0} (q : A → Bool) (l : List A) (d : A) → any_of q l ≡ true → (i : ℕ) × (i < length l) × (q (get_or l i d) ≡ true)
unfolding any_of
any_at q [] d e = never e
any_at q (x ∷ l) d e =
    or_cases (q x) (any_of q l) e
    (λ h. (0, suc-le-suc zero-le, h))
    (λ h. let r = any_at q l d h in (suc r.0, suc-le-suc r.1, r.2))

pub any-in : {A : Type 0} (q : A → Bool) (l : List A) (d : A) (i : ℕ) → i < length l → q (get_or l i d) ≡ true → any_of q l ≡ true
unfolding any_of
any-in q [] d i h e = absurd (not-suc-le-zero h)
any-in q (x ∷ l) d zero h e = rw e
any-in q (x ∷ l) d (suc i) h e = rw (any-in q l d i (le_of_suc-le-suc h) e) (or-true (q x))

-- every element passes
pub all-at : {A : Type 0} (q : A → Bool) (l : List A) (d : A) → all_of q l ≡ true → (i : ℕ) → i < length l → q (get_or l i d) ≡ true
unfolding all_of
all-at q [] d e i h = absurd (not-suc-le-zero h)
all-at q (x ∷ l) d e zero h = and_l (q x) (all_of q l) e
all-at q (x ∷ l) d e (suc i) h = all-at q l d (and_r (q x) (all_of q l) e) i (le_of_suc-le-suc h)

pub all_in : {A : Type 0} (q : A → Bool) (l : List A) (d : A) → ((i : ℕ) → i < length l → q (get_or l i d) ≡ true) → all_of q l ≡ true
unfolding all_of
all_in q [] d f = refl
all_in q (x ∷ l) d f = and_both (f 0 (suc-le-suc zero-le)) (all_in q l d (λ i h. f (suc i) (suc-le-suc h)))

pub all-not : {A : Type 0} (q : A → Bool) (l : List A) (d : A) (i : ℕ) → i < length l → q (get_or l i d) ≡ false → all_of q l ≡ false
all-not q l d i h e = not_so (all_of q l) (λ t. never (sym e ∙ all-at q l d t i h))

pub all_append : {A : Type 0} (q : A → Bool) (a b : List A) → all_of q (a ++ b) ≡ (all_of q a && all_of q b)
unfolding all_of
all_append q [] b = refl
all_append q (x ∷ a) b = rw (all_append q a b, and_assoc)

-- the element at a place of a list mapped
pub any-map : {A B : Type 0} (q : B → Bool) (g : A → B) (l : List A) → any_of q (map g l) ≡ any_of (λ x. q (g x)) l
unfolding any_of
any-map q g [] = refl
any-map q g (x ∷ l) = rw (any-map q g l)

pub map_at : {A B : Type 0} (f : A → B) (l : List A) (i : ℕ) (d : A) (e : B) → i < length l → get_or (map f l) i e ≡ f (get_or l i d)
map_at f [] i d e h = absurd (not-suc-le-zero h)
map_at f (x ∷ l) zero d e h = refl
map_at f (x ∷ l) (suc i) d e h = map_at f l i d e (le_of_suc-le-suc h)

-- a number that is in a list has a place there
pub place : (l : List ℕ) (x : ℕ) → has l x ≡ true → (i : ℕ) × (i < length l) × (get_or l i 0 ≡ x)
place l x e = let r = any_at (λ y. eqb y x) l 0 e in (r.0, r.1, eqb-true _ _ r.2)

pub placed : (l : List ℕ) (x i : ℕ) → i < length l → get_or l i 0 ≡ x → has l x ≡ true
placed l x i h e = any-in (λ y. eqb y x) l 0 i h (eq-eqb _ _ e)

-- what holds of every element, at one that is in the list
pub all-has : (q : ℕ → Bool) (l : List ℕ) (x : ℕ) → all_of q l ≡ true → has l x ≡ true → q x ≡ true
all-has q l x e h = let r = place l x h in rw r.2 at (all-at q l 0 e r.0 r.1)

-- what a list has, by its head and its rest
module _ (x : ℕ) (l : List ℕ) where
  pub has-head : has (x ∷ l) x ≡ true
  unfolding any_of
  has-head = rw (eq-eqb x x refl)

  pub has_rest : (y : ℕ) → has l y ≡ true → has (x ∷ l) y ≡ true
  unfolding any_of
  has_rest y h = rw (h, or-true (eqb x y))

  pub has_other : (y : ℕ) → (x ≡ y → ⊥) → has (x ∷ l) y ≡ has l y
  unfolding any_of
  has_other y n = rw (ne_eqb x y n)

  -- a head that comes again adds nothing
  pub has-again : has l x ≡ true → (y : ℕ) → has (x ∷ l) y ≡ has l y
  has-again h y = ⊎_elim (λ e. rw (← e) (has-head ∙ sym h)) (has_other y) (eq-or-ne x y)
