-- The values of all literals in a table by code, and the assignment that one is of. Assumes nothing.
use Rattle.std.specs.Prelude.{◌≡◌, ℕ, ◌+◌, ◌*◌, ◌/◌, ◌≤◌, Bool, false, List, length, get_or}
use Rattle.lists.specs.Tables.{table}
use Rattle.packed.specs.Order.{value_of}
use Rattle.store.specs.Stores.{max_variables}
use Rattle.lexleader.specs.Models.{literal_value}

-- the places of a table of the literals of as many variables as a store can have, by code from 0
abbrev pub max_table : ℕ
max_table = 2 * max_variables + 2

-- what a table has at a literal's code
abbrev pub by_code : List Bool → ℕ → Bool
by_code values code = get_or values code false

-- the values of the variables 1..n in a table
unfoldable pub bits_in : ℕ → List Bool → List Bool
bits_in n values = table n (λ i. get_or values (2 * i + 2) false)

-- the table is that of this assignment: it has a place for each literal of 1..n, and there the literal's value
pub record Table (n : ℕ) (values : List Bool) : Type 0 where
  pub room : 2 * n + 2 ≤ length values
  pub value : (code : ℕ) → 1 ≤ code / 2 → code / 2 ≤ n → get_or values code false ≡ literal_value (value_of (bits_in n values)) code
