-- Descent (document 01; settled and spent are its terms): "Descent takes the first row by which A moved is < A, puts that in A, and goes on, at most as
-- often as a lent 64-bit limit says." Assumes nothing.
use Rattle.std.specs.Prelude.{ℕ, zero, suc, ◌+◌, Bool, cond, List, [], ◌∷◌}
use Rattle.lexleader.specs.Rows.{moved, lowers}

-- the assignment moved by the first row that makes it smaller, if there is one
pub data Step : Type 0 where
  rest : Step
  to : List Bool → Step

unfoldable pub step_by : List (List ℕ) → List Bool → Step
step_by [] a = rest
step_by (row ∷ rows) a = cond (lowers row a) (to (moved row a)) (step_by rows a)

-- "It ends `settled` with the count of moves when no row lowers A, or `spent` when the moves equal the lent limit and some row still lowers A."
pub data Ending : Type 0 where
  settled : ℕ → List Bool → Ending
  spent : ℕ → List Bool → Ending

-- after `moves` moves, with `left` more allowed
unfoldable pub descend_from : ℕ → ℕ → List (List ℕ) → List Bool → Ending
descend_from moves zero rows a = elim (step_by rows a) [ rest ↦ settled moves a | to b ↦ spent moves a ]
descend_from moves (suc left) rows a = elim (step_by rows a) [ rest ↦ settled moves a | to b ↦ descend_from (moves + 1) left rows b ]

abbrev pub descend : ℕ → List (List ℕ) → List Bool → Ending
descend limit rows a = descend_from 0 limit rows a
