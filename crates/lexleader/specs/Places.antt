-- Places among the clauses that a row adds, for writing them one after another: what is left from a place on. Assumes nothing.
use Rattle.std.specs.Prelude.{◌≡◌, ℕ, ◌+◌, ◌-◌, ◌≤◌, ◌<◌, cond, List, [], ◌∷◌, ◌++◌, length, drop, eqb}
use Rattle.store.specs.Literals.{opposite_of}
use Rattle.lexleader.specs.Rows.{Pair}
use Rattle.store.specs.Stores.{max_variables}
use Rattle.lexleader.specs.Bounds.{max_made_variables}
use Rattle.lexleader.specs.Clause.{table_of, pair_at, pairs_at, NextPair}
use Rattle.lexleader.specs.declared.places.Place.{Place}

-- the clauses of a row from the auxiliary ej on, whose number is e, for the pairs from (xj, yj) on
unfoldable pub clauses_on : ℕ → ℕ → List Pair → List (List ℕ)
clauses_on j e [] = []
clauses_on j e (q ∷ []) = cond (eqb j 1) ((opposite_of q.x ∷ q.y ∷ []) ∷ []) []
clauses_on j e (q ∷ p ∷ pairs) = table_of j e q p ++ clauses_on (j + 1) (e + 1) (p ∷ pairs)

-- the clauses of a row from a place on
unfoldable pub clauses_at : List ℕ → Place → List (List ℕ)
clauses_at row p = drop (p.r - 1) (clauses_on p.j p.auxiliary (pairs_at p.index row))

-- the six clauses of the auxiliary at a place, whose pair is not the row's last
unfoldable pub six_at : List ℕ → Place → List (List ℕ)
six_at row p = table_of p.j p.auxiliary (pair_at row p.index) (pair_at row p.next)

-- the auxiliary after the row's last one
unfoldable pub auxiliary_after : List ℕ → Place → ℕ
auxiliary_after row p = p.auxiliary + (length (pairs_at p.index row) - 1)

-- the place past the last clause of a row, after which the auxiliaries go on from e
abbrev pub past_last : List ℕ → ℕ → Place
past_last row e = record { index = length row; next = length row; auxiliary = e; j = 1; r = 1 }

-- p is a place of the row: at one of its x, with the next one, or past the last clause. Before xj there are j - 1 others (`early`).
pub record PlaceStands (row : List ℕ) (p : Place) : Type 0 where
  pub within : p.index ≤ length row
  pub here : p.index < length row → pairs_at p.index row ≡ pair_at row p.index ∷ pairs_at (p.index + 1) row
  pub then : p.index < length row → NextPair row (p.index + 1) p.next
  pub alone : p.index < length row → p.next ≡ length row → (p.j ≡ 1) × (p.r ≡ 1)
  pub one : 1 ≤ p.j
  pub early : p.j ≤ p.index + 1
  pub low : 1 ≤ p.r
  pub high : p.r ≤ 6
  pub after-most : auxiliary_after row p ≤ max_made_variables + 1

-- a clause stands at p, a place of a row that a store can hold
pub record ClauseStands (row : List ℕ) (p : Place) : Type 0 where
  pub small : length row ≤ max_variables
  pub stands : PlaceStands row p
  pub inside : p.index < length row

-- from the place p on, these clauses are left of the row, and `after` is the auxiliary after its last one
pub record PlaceLeaves (row : List ℕ) (p : Place) (clauses : List (List ℕ)) (after : ℕ) : Type 0 where
  pub stands : PlaceStands row p
  pub are : clauses_at row p ≡ clauses
  pub auxiliary : auxiliary_after row p ≡ after

-- q is the place past these clauses, from p on
pub record PlaceAfter (row : List ℕ) (p : Place) (clauses : List (List ℕ)) (q : Place) : Type 0 where
  pub stands : PlaceStands row q
  pub passed : clauses_at row p ≡ clauses ++ clauses_at row q
  pub auxiliary : auxiliary_after row q ≡ auxiliary_after row p
