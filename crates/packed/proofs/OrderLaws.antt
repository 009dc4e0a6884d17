-- The order of assignments: the first difference is what its name says, and `less` is the paper's sentence. Assumes nothing.
use mathlib.Core.Path.{◌≡◌, refl, sym, ap, ◌∙◌, subst}
use mathlib.Core.Bool.{Bool, true, false, not, ◌&&◌, not-and_self}
use mathlib.Core.List.{List, [], ◌∷◌}
use mathlib.Core.Logic.{⊎_elim}
use Prim.Native.Nat.{ℕ, zero, suc, ◌+◌, ◌-◌, ◌≤◌, ◌<◌, suc-le-suc}
use native.Mathlib.Nat.{le_of_suc-le-suc}
use native.Mathlib.Omega.{arith}
use lib.ListN.{length, get_or}
use Rattle.lists.proofs.Cases.{lt-or-le, never}
use Rattle.packed.specs.Order.{value_of, difference_from, first_difference, less}

-- two lists first differ at index d
pub record Split (a b : List Bool) (d : ℕ) : Type 0 where
  pub within : d < length a
  pub before : (p : ℕ) → p < d → get_or a p false ≡ get_or b p false
  pub here : get_or a d false ≡ get_or b d false → ⊥

-- the two ways in which the search ends, with what `less` then is
data Found (i : ℕ) (a b : List Bool) : Type 0 where
  none : difference_from i a b ≡ 0 → less a b ≡ false → (length a ≡ length b → a ≡ b) → Found i a b
  at : (d : ℕ) → difference_from i a b ≡ i + d → less a b ≡ (not (get_or a d false) && get_or b d false) → Split a b d → Found i a b

-- one equal value more at the front
further : (i : ℕ) (x : Bool) (a b : List Bool) → difference_from i (x ∷ a) (x ∷ b) ≡ difference_from (i + 1) a b
    → less (x ∷ a) (x ∷ b) ≡ less a b → Found (i + 1) a b → Found i (x ∷ a) (x ∷ b)
further i x a b e l (none z f s) = none (e ∙ z) (l ∙ f) (λ q. ap (λ (t : List Bool). x ∷ t) (s (omega arith)))
further i x a b e l (at d z f s) =
    at (suc d) (e ∙ z ∙ omega arith) (l ∙ f)
    (record { within = suc-le-suc s.within; before = before; here = s.here })
  where
    before : (p : ℕ) → p < suc d → get_or (x ∷ a) p false ≡ get_or (x ∷ b) p false
    before zero h = refl
    before (suc p) h = s.before p (le_of_suc-le-suc h)

-- two different values at the front
front : (x y : Bool) (a b : List Bool) → (x ≡ y → ⊥) → Split (x ∷ a) (y ∷ b) 0
front x y a b n = record { within = omega arith; before = λ p h. absurd (omega arith); here = n }

found : (i : ℕ) (a b : List Bool) → Found i a b
unfolding difference_from less
found i [] [] = none refl refl (λ e. refl)
found i [] (y ∷ b) = none refl refl (λ e. absurd (omega arith))
found i (x ∷ a) [] = none refl refl (λ e. absurd (omega arith))
found i (true ∷ a) (true ∷ b) = further i true a b refl refl (found (i + 1) a b)
found i (true ∷ a) (false ∷ b) = at 0 (omega arith) refl (front true false a b (λ e. never (sym e)))
found i (false ∷ a) (true ∷ b) = at 0 (omega arith) refl (front false true a b never)
found i (false ∷ a) (false ∷ b) = further i false a b refl refl (found (i + 1) a b)

-- ---- the paper's sentences

pub difference-zero : (a b : List Bool) → length a ≡ length b → first_difference a b ≡ 0 → a ≡ b
difference-zero a b e q = elim (found 1 a b) [ none z f s ↦ s e | at d z f s ↦ absurd (omega arith) ]

pub difference-within : (a b : List Bool) → first_difference a b ≤ length a
difference-within a b = elim (found 1 a b) [ none z f s ↦ omega arith | at d z f s ↦ omega (arith, s.within) ]

pub difference-first : (a b : List Bool) (i : ℕ) → length a ≡ length b → 1 ≤ i → i < first_difference a b → value_of a i ≡ value_of b i
difference-first a b i e h l = elim (found 1 a b) [ none z f s ↦ absurd (omega arith) | at d z f s ↦ s.before (i - 1) (omega arith) ]

pub difference-here : (a b : List Bool) → length a ≡ length b → 1 ≤ first_difference a b
    → value_of a (first_difference a b) ≡ value_of b (first_difference a b) → ⊥
difference-here a b e h q = elim (found 1 a b) [
  | none z f s ↦ omega arith
  | at d z f s ↦ let m : first_difference a b - 1 ≡ d = omega arith in s.here (subst (λ (k : ℕ). get_or a k false ≡ get_or b k false) m q)
]

-- A < B when A has 0 and B has 1 at the variable at which they first differ
pub less-is : (a b : List Bool) → length a ≡ length b
    → less a b ≡ (not (value_of a (first_difference a b)) && value_of b (first_difference a b))
less-is a b e = elim (found 1 a b) [
  | none z f s ↦
      let i : ℕ = first_difference a b in
      f ∙ sym (not-and_self (value_of a i)) ∙ ap (λ (l : List Bool). not (value_of a i) && value_of l i) (s e)
  | at d z f s ↦ let m : d ≡ first_difference a b - 1 = omega arith in f ∙ ap (λ (k : ℕ). not (get_or a k false) && get_or b k false) m
]

-- ---- lists of which the first difference is known

pub difference-at : (a b : List Bool) (d : ℕ) → length a ≡ length b → Split a b d → first_difference a b ≡ d + 1
difference-at a b d e s = elim (found 1 a b) [
  | none z f q ↦ absurd (s.here (ap (λ (l : List Bool). get_or l d false) (q e)))
  | at k z f t ↦
      ⊎_elim (λ (h : k < d). absurd (t.here (s.before k h)))
      (λ (h : d ≤ k). ⊎_elim (λ (l : d < k). absurd (s.here (t.before d l))) (λ (l : k ≤ d). omega arith) (lt-or-le d k))
      (lt-or-le k d)
]

pub less-at : (a b : List Bool) (d : ℕ) → length a ≡ length b → Split a b d → less a b ≡ (not (get_or a d false) && get_or b d false)
less-at a b d e s =
    let m : first_difference a b - 1 ≡ d = omega (arith, difference-at a b d e s) in
    less-is a b e ∙ ap (λ (k : ℕ). not (get_or a k false) && get_or b k false) m

pub difference-self : (a : List Bool) → first_difference a a ≡ 0
difference-self a = elim (found 1 a a) [ none z f s ↦ z | at d z f s ↦ absurd (s.here refl) ]

pub less-self : (a : List Bool) → less a a ≡ false
less-self a = elim (found 1 a a) [ none z f s ↦ f | at d z f s ↦ absurd (s.here refl) ]
