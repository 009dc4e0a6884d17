-- The value of a literal: of the opposite one, of a variable, and behind more variables; the same for formulas. Assumes nothing.
use mathlib.Core.Path.{◌≡◌, refl, sym}
use mathlib.Core.Bool.{Bool, true, false, not, cond, ◌&&◌, not-not}
use mathlib.Core.List.{List, ◌++◌}
use Prim.Native.Nat.{ℕ, ◌+◌, ◌-◌, ◌*◌, ◌/◌, ◌%◌}
use native.Mathlib.Omega.{arith}
use borrow.Author.Tests.{eqb-true, eqb-false, eq-eqb, ne_eqb}
use lib.ListN.{length, get_or-append}
use Rattle.lists.specs.Tests.{all_of}
use Rattle.lists.proofs.Members.{all_append}
use Rattle.lists.proofs.Tests.{any_same, all_same}
use Rattle.packed.specs.Order.{value_of}
use Rattle.store.specs.Literals.{is_negative, opposite_of, is_literal}
use Rattle.store.proofs.FormLaws.{literal-low, literal-high}
use Rattle.lexleader.specs.Models.{literal_value, clause_holds, formula_holds}

module _ (v : ℕ → Bool) where
  pub value-opposite : (code : ℕ) → literal_value v (opposite_of code) ≡ not (literal_value v code)
  unfolding literal_value
  value-opposite code = go (is_negative code) refl
    where
      go : (b : Bool) → is_negative code ≡ b → let opposite = cond b (code - 1) (code + 1) in
          cond (is_negative opposite) (not (v (opposite / 2))) (v (opposite / 2)) ≡ not (cond b (not (v (code / 2))) (v (code / 2)))
      go true e =
          let odd = eqb-true (code % 2) 1 e in
          let half : (code - 1) / 2 ≡ code / 2 = omega arith in
          rw (ne_eqb ((code - 1) % 2) 1 (omega arith), half) (sym (not-not (v (code / 2))))
      go false e =
          let even = eqb-false (code % 2) 1 e in
          let half : (code + 1) / 2 ≡ code / 2 = omega arith in
          rw (eq-eqb ((code + 1) % 2) 1 (omega arith), half)

  pub value-positive : (i : ℕ) → literal_value v (2 * i) ≡ v i
  unfolding literal_value
  value-positive i =
      let half : 2 * i / 2 ≡ i = omega arith in
      rw (ne_eqb (2 * i % 2) 1 (omega arith), half)

-- a formula in two parts
pub formula-append : (v : ℕ → Bool) (f g : List (List ℕ)) → formula_holds v (f ++ g) ≡ (formula_holds v f && formula_holds v g)
unfolding formula_holds
formula-append v f g = all_append (clause_holds v) f g

-- values behind those of the variables 1..n do not touch what is said of 1..n
module _ (n : ℕ) (a t : List Bool) (size : length a ≡ n) where
  pub literal-front : (code : ℕ) → is_literal n code ≡ true → literal_value (value_of (a ++ t)) code ≡ literal_value (value_of a) code
  unfolding literal_value
  literal-front code h =
      let low = literal-low n code h in
      let high = literal-high n code h in
      rw (get_or-append a t false (code / 2 - 1) (omega arith))

  clause-front : (clause : List ℕ) → all_of (is_literal n) clause ≡ true → clause_holds (value_of (a ++ t)) clause ≡ clause_holds (value_of a) clause
  unfolding clause_holds
  clause-front = any_same (is_literal n) (literal_value (value_of (a ++ t))) (literal_value (value_of a)) literal-front

  pub formula-front : (formula : List (List ℕ)) → all_of (all_of (is_literal n)) formula ≡ true
      → formula_holds (value_of (a ++ t)) formula ≡ formula_holds (value_of a) formula
  unfolding formula_holds
  formula-front = all_same (all_of (is_literal n)) (clause_holds (value_of (a ++ t))) (clause_holds (value_of a)) clause-front
