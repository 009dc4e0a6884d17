-- What the code says of the clauses that rows add: a clause as it is returned, and a walk along a row from one of its x to the next.
-- Assumes nothing.
use Rattle.std.specs.Prelude.{◌≡◌, ℕ, ◌+◌, ◌-◌, ◌*◌, ◌≤◌, ◌<◌, Bool, cond, List, [], ◌∷◌, length, get_or, take, drop, eqb}
use Rattle.store.specs.Stores.{rows_of, row_at}
use Rattle.cycles.specs.Cycles.{left_out}
use Rattle.cycles.specs.Marks.{marks_of}
use Rattle.lexleader.specs.declared.table.Clause.{Clause}
use Rattle.lexleader.specs.declared.numbered.Spot.{Spot}
use Rattle.lexleader.specs.Rows.{Pair, pairs_but}
use Rattle.lexleader.specs.Made.{first_six, later_six, row_clauses, auxiliaries, rows_clauses}
use Rattle.lexleader.specs.Bounds.{max_made_variables}

-- the literals in use
abbrev pub clause_of : Clause → List ℕ
clause_of c = take c.count c.literals

-- a clause that was returned holds these literals, at most four
pub record ClauseIs (c : Clause) (clause : List ℕ) : Type 0 where
  pub most : c.count ≤ 4
  pub room : length c.literals ≡ 4
  pub are : clause_of c ≡ clause

-- a column of document 01's table, j = 1 or j of 2 or more, for the auxiliary whose number is e, its pair and the next one
abbrev pub column_of : Bool → ℕ → Pair → Pair → List (List ℕ)
column_of first e q p = cond first (first_six e q p) (later_six e (e - 1) q p)

-- the table for the auxiliary ej
abbrev pub table_of : ℕ → ℕ → Pair → Pair → List (List ℕ)
table_of j e q p = column_of (eqb j 1) e q p

-- the variable at an index of a row, with its image
abbrev pub pair_at : List ℕ → ℕ → Pair
pair_at row i = record { x = 2 * (i + 1); y = get_or row i 0 }

-- those of a row's variables at index i and after it that a test does not leave out, with their images
unfoldable pub but_at : (ℕ → Bool) → ℕ → List ℕ → List Pair
but_at out i row = pairs_but out (i + 1) (drop i row)

-- the row's x among them
abbrev pub pairs_at : ℕ → List ℕ → List Pair
pairs_at i row = but_at (left_out row) i row

-- r is the index of the first variable at or after `from` that a test does not leave out, or the row's length where there is none
pub record NextBut (out : ℕ → Bool) (row : List ℕ) (from r : ℕ) : Type 0 where
  pub within : r ≤ length row
  pub onward : from ≤ r
  pub same : but_at out from row ≡ but_at out r row
  pub here : r < length row → but_at out r row ≡ pair_at row r ∷ but_at out (r + 1) row

-- the first x at or after `from`
abbrev pub NextPair : List ℕ → ℕ → ℕ → Type 0
NextPair row from r = NextBut (left_out row) row from r

-- Clause number q, from 0, of those that a store's rows add is the one of that number in its row, whose marks these are.
pub record SpotOf (n rows : ℕ) (images : List ℕ) (q : ℕ) (spot : Spot) (marks : List Bool) : Type 0 where
  pub within : spot.row < rows
  pub some : q < length (rows_clauses (n + 1) (rows_of n rows images))
  pub few : spot.auxiliary + auxiliaries (row_at n spot.row images) ≤ max_made_variables + 1
  pub inside : spot.number < length (row_clauses spot.auxiliary (row_at n spot.row images))
  pub is : get_or (rows_clauses (n + 1) (rows_of n rows images)) q [] ≡ get_or (row_clauses spot.auxiliary (row_at n spot.row images)) spot.number []
  pub marked : marks ≡ marks_of (row_at n spot.row images)
