-- A cursor into the made formula's clauses: what is left of them from it on (document 01, "Made formula": "The first m clauses are the plain ones, then each
-- row's in order of acceptance"). A cursor only counts the plain clauses, so what is left is said for any list of them. Assumes nothing.
use Rattle.std.specs.Prelude.{◌≡◌, ℕ, ◌+◌, ◌≤◌, ◌<◌, Bool, List, [], ◌∷◌, ◌++◌, length, drop}
use Rattle.store.specs.Stores.{Store, row_at, rows_from, plain_of, FormedRows}
use Rattle.store.specs.declared.record.Record.{Record}
use Rattle.cycles.specs.Marks.{marks_of}
use Rattle.lexleader.specs.Made.{rows_clauses}
use Rattle.lexleader.specs.Bounds.{max_before}
use Rattle.lexleader.specs.Places.{clauses_at, auxiliary_after, PlaceStands}
use Rattle.lexleader.specs.declared.places.Place.{Place}
use Rattle.cursor.specs.declared.Cursor.{Cursor}

-- what rows add, from a place of the first of them on
unfoldable pub added_left : List (List ℕ) → Place → List (List ℕ)
added_left [] p = []
added_left (row ∷ rows) p = clauses_at row p ++ rows_clauses (auxiliary_after row p) rows

-- what row r and those after it add, from a place of row r on
unfoldable pub added_from : Record → List ℕ → ℕ → Place → List (List ℕ)
added_from counts images r p = added_left (rows_from counts.variables counts.rows images r) p

-- the clauses from a cursor on: these plain ones, then those that the rows add
unfoldable pub remaining : List (List ℕ) → Record → List ℕ → Cursor → List (List ℕ)
remaining plain counts images c = drop c.plain plain ++ added_from counts images c.row c.place

-- the clauses of a store's made formula from a cursor on
abbrev pub remaining_of : Store → Cursor → List (List ℕ)
remaining_of s c = remaining (plain_of s) s.counts s.images c

-- the row that a cursor is in
abbrev pub row_of : Record → List ℕ → Cursor → List ℕ
row_of counts images c = row_at counts.variables c.row images

-- a cursor of a store: where a row is left, a clause of it stands at the cursor's place
pub record CursorStands (counts : Record) (images : List ℕ) (c : Cursor) : Type 0 where
  pub rows : FormedRows counts.variables counts.rows images
  pub plain : c.plain ≤ counts.clauses
  pub row : c.row ≤ counts.rows
  pub place : c.row < counts.rows → PlaceStands (row_of counts images c) c.place
  pub there : c.row < counts.rows → c.place.index < counts.variables
  pub after-most : c.row < counts.rows → auxiliary_after (row_of counts images c) c.place ≤ max_before (c.row + 1) + 1

-- the marks of what is left out of the row that a cursor is in
pub record RowMarked (counts : Record) (images : List ℕ) (c : Cursor) (marks : List Bool) : Type 0 where
  pub room : length marks ≡ counts.variables
  pub are : c.row < counts.rows → marks ≡ marks_of (row_of counts images c)

-- a clause is left: a plain one, or one that a row adds
abbrev pub ClauseRemains : Record → Cursor → Type 0
ClauseRemains counts c = counts.clauses ≤ c.plain → c.row < counts.rows

-- a cursor past the plain clauses, at one that a row adds
pub record AtAdded (counts : Record) (c : Cursor) : Type 0 where
  pub past : counts.clauses ≤ c.plain
  pub row : c.row < counts.rows

-- at the first of an auxiliary's six clauses
pub record AtAuxiliary (counts : Record) (c : Cursor) : Type 0 where
  pub added : AtAdded counts c
  pub first : c.place.r ≡ 1
  pub more : c.place.next < counts.variables

-- d is the cursor past these clauses, from c on, whatever the plain ones are
pub record CursorAfter (counts : Record) (images : List ℕ) (c : Cursor) (clauses : List (List ℕ)) (d : Cursor) : Type 0 where
  pub stands : CursorStands counts images d
  pub passed : (plain : List (List ℕ)) → length plain ≡ counts.clauses → remaining plain counts images c ≡ clauses ++ remaining plain counts images d
