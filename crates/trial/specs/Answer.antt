-- What a trial says of an assignment (document 02, CR 2; reading F9), in the words of the request. Assumes nothing.
use Rattle.std.specs.Prelude.{◌≡◌, ℕ, ◌-◌, ◌*◌, ◌≤◌, ◌<◌, Bool, List, length, get_or}
use Rattle.packed.specs.Order.{value_of, first_difference}
use Rattle.lexleader.specs.Rows.{moved, lowers}

pub record Answers (row : List ℕ) (a : List Bool) (yes : Bool) (variable : ℕ) : Type 0 where
  -- "It says yes for the same rows and assignments"
  pub says : yes ≡ lowers row a
  -- what the comparison call answers on A and A moved
  pub compared : variable ≡ first_difference a (moved row a)
  -- "the variable that decided: the least moved one at which A and A moved differ"
  pub within : variable ≤ length row
  pub is-moved : 1 ≤ variable → get_or row (variable - 1) 0 ≡ 2 * variable → ⊥
  pub differs : 1 ≤ variable → value_of a variable ≡ value_of (moved row a) variable → ⊥
  pub least : (i : ℕ) → 1 ≤ i → i < variable → value_of a i ≡ value_of (moved row a) i
  -- "or 0 where none does"
  pub none : variable ≡ 0 → a ≡ moved row a
