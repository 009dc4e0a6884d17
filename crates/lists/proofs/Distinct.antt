-- Lists in which no number stands twice, and how a loop finds out. Assumes nothing.
use mathlib.Core.Path.{◌≡◌, refl, sym, ap, ◌∙◌}
use mathlib.Core.Bool.{Bool, true, false, not, ◌||◌, or_assoc, or-false}
use mathlib.Core.List.{List, [], ◌∷◌, ◌++◌}
use Prim.Native.Nat.{ℕ, zero, suc, ◌+◌, ◌<◌, suc-le-suc}
use native.Mathlib.Nat.{not-suc-le-zero, le_of_suc-le-suc}
use native.Mathlib.Numerals.{add-one}
use native.Mathlib.Omega.{arith}
use borrow.Author.Tests.{not-true, eqb-false, ne_eqb}
use lib.ListN.{length, get_or, take}
use lib.Seq.{take-suc, get_or-take, length-take-le}
use lib.Dec.{eqb}
use Rattle.lists.specs.Tests.{any_of, has, distinct}
use Rattle.lists.proofs.Cases.{never, and_l, and_r, or-l-false, or-r-false, not_so}
use Rattle.lists.proofs.Members.{place, placed}

-- two places with the same number are one place
pub distinct-inj : (l : List ℕ) → distinct l ≡ true → (i j : ℕ) → i < length l → j < length l → get_or l i 0 ≡ get_or l j 0 → i ≡ j
unfolding distinct
distinct-inj [] e i j h k q = absurd (not-suc-le-zero h)
distinct-inj (x ∷ l) e zero zero h k q = refl
distinct-inj (x ∷ l) e zero (suc j) h k q =
    never (sym (not-true (has l x) (and_l (not (has l x)) (distinct l) e)) ∙ placed l x j (le_of_suc-le-suc k) (sym q))
distinct-inj (x ∷ l) e (suc i) zero h k q =
    never (sym (not-true (has l x) (and_l (not (has l x)) (distinct l) e)) ∙ placed l x i (le_of_suc-le-suc h) q)
distinct-inj (x ∷ l) e (suc i) (suc j) h k q =
    ap suc (distinct-inj l (and_r (not (has l x)) (distinct l) e) i j (le_of_suc-le-suc h) (le_of_suc-le-suc k) q)

-- and a list in which they are has no number twice
pub inj-distinct : (l : List ℕ) → ((i j : ℕ) → i < length l → j < length l → get_or l i 0 ≡ get_or l j 0 → i ≡ j) → distinct l ≡ true
unfolding distinct
inj-distinct [] f = refl
inj-distinct (x ∷ l) f =
    let once : has l x ≡ false = not_so _ (λ h. let p = place l x h in omega (arith, f (suc p.0) 0 (suc-le-suc p.1) (omega arith) p.2)) in
    rw once (inj-distinct l (λ i j h k q. omega (arith, f (suc i) (suc j) (suc-le-suc h) (suc-le-suc k) q)))

any_append : {A : Type 0} (q : A → Bool) (a b : List A) → any_of q (a ++ b) ≡ (any_of q a || any_of q b)
unfolding any_of
any_append q [] b = refl
any_append q (x ∷ a) b = rw (any_append q a b, or_assoc)

-- one number more
pub has_more : (l : List ℕ) (i x : ℕ) → i < length l → has (take (i + 1) l) x ≡ (has (take i l) x || eqb (get_or l i 0) x)
unfolding any_of
has_more l i x h =
    rw (add-one i, take-suc l i 0 h, any_append (λ y. eqb y x) (take i l) (get_or l i 0 ∷ []), or-false (eqb (get_or l i 0) x))

distinct_snoc : (l : List ℕ) (x : ℕ) → distinct l ≡ true → has l x ≡ false → distinct (l ++ (x ∷ [])) ≡ true
unfolding distinct any_of
distinct_snoc [] x e h = refl
distinct_snoc (y ∷ l) x e h =
    let new : has l y ≡ false = not-true (has l y) (and_l (not (has l y)) (distinct l) e) in
    let other : eqb x y ≡ false = ne_eqb x y (λ q. eqb-false y x (or-l-false (eqb y x) (has l x) h) (sym q)) in
    let rest = distinct_snoc l x (and_r (not (has l y)) (distinct l) e) (or-r-false (eqb y x) (has l x) h) in
    rw (any_append (λ z. eqb z y) l (x ∷ []), new, other) rest

pub distinct_more : (l : List ℕ) (i : ℕ) → i < length l → distinct (take i l) ≡ true → has (take i l) (get_or l i 0) ≡ false → distinct (take (i + 1) l) ≡ true
distinct_more l i h e new = rw (add-one i, take-suc l i 0 h) (distinct_snoc (take i l) (get_or l i 0) e new)

-- a number that stands before its place, too
pub distinct-twice : (l : List ℕ) (i : ℕ) → i < length l → has (take i l) (get_or l i 0) ≡ true → distinct l ≡ false
distinct-twice l i h e =
    let p = place (take i l) (get_or l i 0) e in
    let k : ℕ = p.0 in
    let before : k < i = omega (arith, p.1, length-take-le i l (omega arith)) in
    not_so (distinct l) (λ d. let same : k ≡ i = distinct-inj l d k i (omega arith) h (sym (get_or-take i l k 0 before) ∙ p.2) in omega arith)
