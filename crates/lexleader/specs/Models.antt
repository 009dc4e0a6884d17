-- Models (document 01): "A model of a formula is an assignment of its variables under which every clause has a true literal." Assumes nothing.
use Rattle.std.specs.Prelude.{◌≡◌, ℕ, Bool, true, not, cond, List, length}
use Rattle.lists.specs.Tests.{any_of, all_of}
use Rattle.packed.specs.Order.{value_of}
use Rattle.store.specs.Literals.{variable_of, is_negative}

-- the value of a literal where variable i has the value v i
unfoldable pub literal_value : (ℕ → Bool) → ℕ → Bool
literal_value v code = cond (is_negative code) (not (v (variable_of code))) (v (variable_of code))

unfoldable pub clause_holds : (ℕ → Bool) → List ℕ → Bool
clause_holds v clause = any_of (literal_value v) clause

unfoldable pub formula_holds : (ℕ → Bool) → List (List ℕ) → Bool
formula_holds v formula = all_of (clause_holds v) formula

-- a is a model of a formula over the variables 1..n
pub record Model (n : ℕ) (formula : List (List ℕ)) (a : List Bool) : Type 0 where
  pub size : length a ≡ n
  pub holds : formula_holds (value_of a) formula ≡ true

pub record Satisfiable (n : ℕ) (formula : List (List ℕ)) : Type 0 where
  pub witness : List Bool
  pub model : Model n formula witness
