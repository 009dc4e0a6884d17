-- Lists by their head and their rest: membership, repeats, and a list after a store. Assumes nothing.
use mathlib.Core.Path.{◌≡◌, refl, sym, ap, ◌∙◌}
use mathlib.Core.Bool.{Bool, true, false, cond, not, ◌||◌, or-true}
use mathlib.Core.List.{List, [], ◌∷◌}
use Prim.Native.Nat.{ℕ, suc, ◌≤◌, ◌<◌}
use native.Mathlib.Decide.{ℕ_discrete}
use native.Mathlib.Omega.{arith}
use borrow.Author.Tests.{not-true, eq-eqb, ne_eqb, eqb-true}
use lib.ListN.{length, get_or, set}
use lib.Seq.{get_or-set_same, get_or-set_other}
use lib.Dec.{eqb}
use Rattle.lists.specs.Tests.{any_of, has, distinct}
use Rattle.lists.proofs.Cases.{never, and_l, and_r, or_cases}
use Rattle.lists.proofs.Members.{has-head, has_rest}

module _ (x : ℕ) (l : List ℕ) where
  -- no number stands twice: not the head, and not in the rest
  pub head-once : distinct (x ∷ l) ≡ true → has l x ≡ false
  unfolding distinct
  head-once d = not-true (has l x) (and_l (not (has l x)) (distinct l) d)

  pub rest-differ : distinct (x ∷ l) ≡ true → distinct l ≡ true
  unfolding distinct
  rest-differ d = and_r (not (has l x)) (distinct l) d

-- a list after a store, at every index
pub stored : {A : Type 0} (l : List A) (i j : ℕ) (a d : A) → i < length l → get_or (set l i a) j d ≡ cond (eqb i j) a (get_or l j d)
stored l i j a d h = by (ℕ_discrete j i)
  where
    by : Dec (j ≡ i) → get_or (set l i a) j d ≡ cond (eqb i j) a (get_or l j d)
    by (yes e) = rw (eq-eqb i j (sym e), e) (get_or-set_same l i a d h)
    by (no n) = rw (ne_eqb i j (λ e. n (sym e))) (get_or-set_other l i j a d n)

-- ---- a list in which no number stands twice, all of it in another, is no longer than that

-- l without the first x
without : ℕ → List ℕ → List ℕ
without x [] = []
without x (y ∷ l) = cond (eqb y x) l (y ∷ without x l)

length_without : (x : ℕ) (l : List ℕ) → has l x ≡ true → length l ≡ suc (length (without x l))
unfolding without any_of
length_without x [] e = never e
length_without x (y ∷ l) e = by (eqb y x) e (length_without x l)
  where
    by : (t : Bool) → (t || has l x) ≡ true → (has l x ≡ true → length l ≡ suc (length (without x l)))
        → suc (length l) ≡ suc (length (cond t l (y ∷ without x l)))
    by true q ih = refl
    by false q ih = ap suc (ih q)

has-without : (x : ℕ) (l : List ℕ) (z : ℕ) → (x ≡ z → ⊥) → has l z ≡ true → has (without x l) z ≡ true
unfolding without any_of
has-without x [] z d e = e
has-without x (y ∷ l) z d e = by (eqb y x) refl (has-without x l z d)
  where
    by : (t : Bool) → eqb y x ≡ t → (has l z ≡ true → has (without x l) z ≡ true) → has (cond t l (y ∷ without x l)) z ≡ true
    by true q ih = or_cases (eqb y z) (has l z) e (λ k. absurd (d (sym (eqb-true y x q) ∙ eqb-true y z k))) (λ k. k)
    by false q ih = or_cases (eqb y z) (has l z) e (λ k. rw k) (λ k. rw (ih k, or-true (eqb y z)))

pub no_longer : (l m : List ℕ) → distinct l ≡ true → ((x : ℕ) → has l x ≡ true → has m x ≡ true) → length l ≤ length m
no_longer [] m d f = omega arith
no_longer (x ∷ l) m d f =
    let rest : (z : ℕ) → has l z ≡ true → has (without x m) z ≡ true =
    λ z h. has-without x m z (λ q. never (sym (head-once x l d) ∙ rw q h)) (f z (has_rest x l z h)) in
    omega (arith, no_longer l (without x m) (rest-differ x l d) rest, length_without x m (f x (has-head x l)))
