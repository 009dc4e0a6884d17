-- The code of a word that is a number. Assumes nothing.
use mathlib.Core.Path.{◌≡◌, refl, ◌∙◌}
use mathlib.Core.Bool.{Bool, true, false, cond}
use mathlib.Core.List.{List, [], ◌∷◌}
use mathlib.Core.Logic.{⊎_elim}
use Prim.Native.Nat.{ℕ, ◌/◌, ◌≤◌}
use native.Mathlib.Omega.{arith}
use borrow.Author.Tests.{eqb-false}
use lib.Dec.{eqb}
use Rattle.lists.proofs.Cases.{never, eq-or-ne}
use Rattle.dimacs.specs.Words.{Piece}
use Rattle.dimacs.specs.Numbers.{Size, Numeral, size_of, positive, negated, numeral_of}
use Rattle.dimacs.specs.declared.Number.{Number}
use Rattle.store.specs.Literals.{code_of}
use Rattle.store.specs.Numerals.{code_in}

-- "`-0` is no number"
no-minus-zero : (s : List ℕ) (x : Number) → numeral_of s ≡ Numeral.Is x → x.size ≡ 0 → x.negative ≡ false
unfolding numeral_of
no-minus-zero [] x e z = never (cc)
no-minus-zero (b ∷ r) x e z = by (eqb b 45) (size_of r) (size_of (b ∷ r)) e
  where
    minus : (v : ℕ) (t : Bool) → eqb v 0 ≡ t → cond t Numeral.Not (Numeral.Is (record { negative = true; size = v })) ≡ Numeral.Is x → x.negative ≡ false
    minus v true k q = never (cc)
    minus v false k q = let f : v ≡ x.size = cc in absurd (eqb-false v 0 k (f ∙ z))

    by : (t : Bool) (after whole : Size) → cond t (negated after) (positive whole) ≡ Numeral.Is x → x.negative ≡ false
    by true (Size.Is v) whole q = minus v (eqb v 0) refl q
    by true Size.Not whole q = never (cc)
    by false after (Size.Is v) q = cc
    by false after Size.Not q = never (cc)

pub record Coded (w : Piece) (x : Number) : Type 0 where
  pub code : code_in w ≡ code_of x.size x.negative
  pub variable : code_in w / 2 ≡ x.size
  pub zero : x.size ≡ 0 → code_in w ≡ 0
  pub other : (x.size ≡ 0 → ⊥) → code_in w ≡ 0 → ⊥
  pub low : (code_in w ≡ 0 → ⊥) → 1 ≤ code_in w / 2

code-of : (w : Piece) (x : Number) → numeral_of w.bytes ≡ Numeral.Is x → code_in w ≡ code_of x.size x.negative
unfolding code_in
code-of w x e = rw e

pub coded : (w : Piece) (x : Number) → numeral_of w.bytes ≡ Numeral.Is x → Coded w x
coded w x e =
    record {
      code = code;
      variable = variable;
      zero = zero;
      other = λ o z. o (omega (arith, variable));
      low = λ o. ⊎_elim (λ z. absurd (o (zero z))) (λ z. omega (arith, variable)) (eq-or-ne x.size 0);
    }
  where
    code : code_in w ≡ code_of x.size x.negative
    code = code-of w x e

    half : (b : Bool) → code_of x.size b / 2 ≡ x.size
    half true = omega arith
    half false = omega arith

    variable : code_in w / 2 ≡ x.size
    variable = rw code (half x.negative)

    zero : x.size ≡ 0 → code_in w ≡ 0
    zero z = code ∙ rw (no-minus-zero w.bytes x e z, z)
