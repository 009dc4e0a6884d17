-- Marks by literal, so that it is known without a search what is in a clause; and tables of places, by which the literals of a clause are sent to others. Assumes nothing.
use Rattle.std.specs.Prelude.{◌≡◌, ℕ, ◌+◌, ◌-◌, ◌<◌, ◌≤◌, List, map, length, ◌==◌, slice_index}
use Rattle.lists.specs.Tests.{has}
use Rattle.numbers.specs.Numbers.{number_count}

-- one mark for each literal, and every one below `mark`
pub record Below (mark : ℕ) (marks : List ℕ) : Type 0 where
  pub room : length marks ≡ number_count
  pub low : (i : ℕ) → slice_index marks i < mark

-- those of these codes, and no others, have this mark
abbrev pub Marked : ℕ → List ℕ → List ℕ → Type 0
Marked mark codes marks = (x : ℕ) → 2 ≤ x → (slice_index marks (x - 2) == mark) ≡ has codes x

-- a table of the places of the literals to which the codes 2, 3, .. are sent
abbrev pub Places : List ℕ → Type 0
Places table = (i : ℕ) → i < number_count → slice_index table i < number_count

-- each literal is sent to itself
abbrev pub OwnPlaces : List ℕ → Type 0
OwnPlaces table = (i : ℕ) → i < number_count → slice_index table i ≡ i

-- where a table sends a code, and a clause
abbrev pub sent_to : List ℕ → ℕ → ℕ
sent_to table code = slice_index table (code - 2) + 2

abbrev pub sent_clause : List ℕ → List ℕ → List ℕ
sent_clause table clause = map (sent_to table) clause
