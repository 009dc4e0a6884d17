-- The tests of `specs/Sets.antt` decide membership, and clauses with the same literals are alike. Assumes nothing.
use mathlib.Core.Path.{◌≡◌, refl, sym}
use mathlib.Core.Bool.{true}
use mathlib.Core.List.Memᴰ
use mathlib.Core.List.{List, [], ◌∷◌, Memᴰ}
use mathlib.Core.Logic.{◌↔◌}
use Prim.Native.Nat.{ℕ, zero, suc, ◌<◌, zero-le, suc-le-suc}
use native.Mathlib.Nat.{not-suc-le-zero, le_of_suc-le-suc}
use lib.ListN.{length, get_or}
use Rattle.lists.specs.Tests.{has}
use Rattle.lists.proofs.Cases.{and_l, and_r, and_both}
use Rattle.lists.proofs.Members.{place, placed}
use Rattle.lists.proofs.Tests.{all-mem, mem-all}
use Rattle.symmetry.specs.Sets.{within, same_set, SameSet}

-- a member has a place, and what stands at a place is a member
pub mem-at : {A : Type 0} (d : A) {x : A} {l : List A} → Memᴰ x l → (i : ℕ) × (i < length l) × (get_or l i d ≡ x)
mem-at d (Memᴰ.head e) = (zero, suc-le-suc zero-le, sym e)
mem-at d (Memᴰ.tail m) = let r = mem-at d m in (suc r.0, suc-le-suc r.1, r.2)

pub at_mem : {A : Type 0} (d : A) (l : List A) (i : ℕ) → i < length l → Memᴰ (get_or l i d) l
at_mem d [] i h = absurd (not-suc-le-zero h)
at_mem d (x ∷ l) zero h = Memᴰ.head refl
at_mem d (x ∷ l) (suc i) h = Memᴰ.tail (at_mem d l i (le_of_suc-le-suc h))

pub has-iff : (l : List ℕ) (x : ℕ) → (has l x ≡ true) ↔ Memᴰ x l
has-iff l x =
    (λ e. let r = place l x e in Memᴰ.cast (sym r.2) (at_mem 0 l r.0 r.1), λ m. let r = mem-at 0 m in placed l x r.0 r.1 r.2)

within-iff : (a b : List ℕ) → (within a b ≡ true) ↔ ((x : ℕ) → Memᴰ x a → Memᴰ x b)
unfolding within
within-iff a b = (λ e x m. (has-iff b x).0 (all-mem (has b) m e), λ f. mem-all (has b) a (λ x m. (has-iff b x).1 (f x m)))

pub same_set-iff : (a b : List ℕ) → (same_set a b ≡ true) ↔ SameSet a b
unfolding same_set
same_set-iff a b = (
  λ e x. ((within-iff a b).0 (and_l (within a b) (within b a) e) x, (within-iff b a).0 (and_r (within a b) (within b a) e) x),
  λ s. and_both ((within-iff a b).1 (λ x. (s x).0)) ((within-iff b a).1 (λ x. (s x).1)),
)

pub same-eq : {a b : List ℕ} → a ≡ b → SameSet a b
same-eq e x = rw e (λ m. m, λ m. m)

pub same-sym : {a b : List ℕ} → SameSet a b → SameSet b a
same-sym s x = ((s x).1, (s x).0)

pub same-trans : {a b c : List ℕ} → SameSet a b → SameSet b c → SameSet a c
same-trans s t x = (λ m. (t x).0 ((s x).0 m), λ m. (s x).1 ((t x).1 m))
