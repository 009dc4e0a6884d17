-- The size of a number where its code passes a test: what `name_of` answers of names, and `size_of` of literals. Assumes nothing.
use mathlib.Core.Path.{◌≡◌, refl, sym, ◌∙◌}
use mathlib.Core.Bool.{Bool, true, false, cond, not, and-false, and-true}
use mathlib.Core.List.{List}
use Prim.Native.Nat.{ℕ, ◌%◌, ◌≤◌, ◌<◌}
use native.Mathlib.Omega.{arith}
use borrow.Author.Tests.{eq-eqb, ne_eqb, not-true}
use Rattle.std.proofs.Common.{Option, Some, None}
use Rattle.lists.proofs.Cases.{never, and_l, and_r, not_so}
use Rattle.dimacs.specs.declared.Number.{Number}
use Rattle.dimacs.proofs.WordLaws.{piece_at}
use Rattle.store.specs.Literals.{code_of, variable_of, is_negative, is_literal}
use Rattle.store.proofs.FormLaws.{literal-zero, literal-low, literal-high, literal-within}
use Rattle.store.specs.Numerals.{code_in}
use Rattle.permutation.specs.Lines.{is_name}
use Rattle.permutation.proofs.Walks.{half, Word}

-- ---- names

module _ (n code : ℕ) where
  pub name-literal : is_name n code ≡ true → is_literal n code ≡ true
  unfolding is_name
  name-literal e = and_l (is_literal n code) (not (is_negative code)) e

  pub name-sign : is_name n code ≡ true → is_negative code ≡ false
  unfolding is_name
  name-sign e = not-true (is_negative code) (and_r (is_literal n code) (not (is_negative code)) e)

  pub is_name_lem : is_literal n code ≡ true → is_negative code ≡ false → is_name n code ≡ true
  unfolding is_name
  is_name_lem literal sign = rw (literal, sign)

  pub no_name : code ≡ 0 → is_name n code ≡ false
  no_name e = not_so (is_name n code) (λ i. omega (arith, literal-low n code (name-literal i)))

-- ---- the ways out of `name_of` and `size_of`

module _ (n : ℕ) (x : Number) where
  abbrev code : ℕ
  code = code_of x.size x.negative

  its-size : variable_of code ≡ x.size
  its-size = half x.size x.negative

  pub name-negative : x.negative ≡ true → None ≡ cond (is_name n code) (Some x.size) None
  unfolding is_name
  name-negative minus = rw (minus, eq-eqb (code_of x.size true % 2) 1 (omega arith), and-false (is_literal n (code_of x.size true)))

  pub name-positive : x.negative ≡ false → is_name n code ≡ is_literal n code
  unfolding is_name
  name-positive plus = rw (plus, ne_eqb (code_of x.size false % 2) 1 (λ e. omega arith)) (and-true (is_literal n (code_of x.size false)))

  pub size-zero : x.size ≡ 0 → None ≡ cond (is_literal n code) (Some x.size) None
  size-zero e = rw (literal-zero n code (its-size ∙ e))

  pub size-beyond : n < x.size → None ≡ cond (is_literal n code) (Some x.size) None
  size-beyond h = rw (not_so (is_literal n code) (λ l. omega (arith, literal-high n code l, its-size)))

  pub size-within : (x.size ≡ 0 → ⊥) → x.size ≤ n → Some x.size ≡ cond (is_literal n code) (Some x.size) None
  size-within z h = rw (literal-within n code (omega (arith, its-size)) (omega (arith, its-size)))

-- ---- what they answer for a code

module _ (test : ℕ → Bool) where
  abbrev pub size_in : ℕ → Option ℕ
  size_in code = cond (test code) (Some (variable_of code)) None

  -- the code passes, and this is its size
  pub record Passes (code size : ℕ) : Type 0 where
    pub passes : test code ≡ true
    pub is : variable_of code ≡ size

  -- of a word that is a number
  pub size-read : {line : List ℕ} {at place next : ℕ} {x : Number} (answer : Option ℕ) → Word line at place x next
      → answer ≡ cond (test (code_of x.size x.negative)) (Some x.size) None → answer ≡ size_in (code_in (piece_at line place))
  size-read answer w e = rw (w.size, w.code) e

  module _ (code : ℕ) (answer : Option ℕ) (e : answer ≡ size_in code) where
    pub size_none : answer ≡ None → test code ≡ false
    size_none q = by (test code) refl (sym e ∙ q)
      where
        by : (t : Bool) → test code ≡ t → cond t (Some (variable_of code)) None ≡ None → test code ≡ false
        by true i k = never (cc)
        by false i k = i

    pub size-some : (size : ℕ) → answer ≡ Some size → Passes code size
    size-some size q = by (test code) refl (sym e ∙ q)
      where
        by : (t : Bool) → test code ≡ t → cond t (Some (variable_of code)) None ≡ Some size → Passes code size
        by true i k = record { passes = i; is = cc }
        by false i k = never (cc)

-- of a test that only literals of 1..n pass
module _ (n : ℕ) (test : ℕ → Bool) (only : (code : ℕ) → test code ≡ true → is_literal n code ≡ true) where
  pub size-range : {code size : ℕ} → Passes test code size → (1 ≤ size) × (size ≤ n)
  size-range {code} p =
      let literal = only code p.passes in
      (omega (arith, p.is, literal-low n code literal), omega (arith, p.is, literal-high n code literal))
