-- The clause at a cursor: a plain one, or past the plain ones what the rows add. Assumes nothing.
use mathlib.Core.Path.{◌≡◌, sym, ap, ◌∙◌}
use mathlib.Core.Logic.{◌⊎◌, inl, inr}
use mathlib.Core.List.{List, [], ◌∷◌, ◌++◌}
use Prim.Native.Nat.{ℕ, ◌+◌, ◌*◌, ◌≤◌, ◌<◌}
use native.Mathlib.Omega.{arith}
use lib.ListN.{length, get_or, drop, drop_of_length-le}
use Rattle.lists.proofs.Cases.{lt-or-le}
use Rattle.lists.proofs.Steps.{drop-step}
use Rattle.store.specs.Stores.{Store, rows_of, plain_of, held_rows}
use Rattle.store.specs.declared.record.Record.{Record}
use Rattle.store.proofs.RowLaws.{row_room}
use Rattle.lexleader.specs.Made.{made}
use Rattle.lexleader.specs.Store.{made_of}
use Rattle.lexleader.specs.Places.{clauses_at, ClauseStands}
use Rattle.cursor.specs.Cursors.{added_from, remaining, remaining_of, row_of, CursorStands, ClauseRemains, AtAdded}
use Rattle.cursor.specs.declared.Cursor.{Cursor}
use Rattle.cursor.proofs.RowLaws.{size, nothing-added, here-some, here-first}

-- a cursor before the first clause of any plain ones is one before the first clause of a store's made formula
pub start_left : (s : Store) (c : Cursor)
    → ((plain : List (List ℕ)) → remaining plain s.counts s.images c ≡ made s.counts.variables plain (rows_of s.counts.variables s.counts.rows s.images))
    → remaining_of s c ≡ made_of s
unfolding made_of held_rows
start_left s c all = all (plain_of s)

-- ---- the cursor's row

module _ (counts : Record) (images : List ℕ) (c : Cursor) (p : CursorStands counts images c) (h : c.row < counts.rows) where
  pub row-there : c.row * counts.variables + counts.variables ≤ length images
  row-there = row_room counts.variables counts.rows images p.rows.fits c.row h

  pub clause-stands : ClauseStands (row_of counts images c) c.place
  clause-stands =
      let is = size counts images c.row p.rows h in
      record { small = omega (arith, is, p.rows.small); stands = p.place h; inside = omega (arith, is, p.there h) }

-- ---- the next clause

module _ (plain : List (List ℕ)) (counts : Record) (many : length plain ≡ counts.clauses) (images : List ℕ) (c : Cursor) where
  abbrev added : List (List ℕ)
  added = added_from counts images c.row c.place

  pub next-plain : c.plain < counts.clauses
      → remaining plain counts images c ≡ get_or plain c.plain [] ∷ remaining plain counts images (record { plain = c.plain + 1; row = c.row; place = c.place })
  unfolding remaining
  next-plain h = ap (λ (l : List (List ℕ)). l ++ added) (drop-step plain c.plain [] (omega arith))

  pub past-plain : counts.clauses ≤ c.plain → remaining plain counts images c ≡ added
  unfolding remaining
  past-plain h = ap (λ (l : List (List ℕ)). l ++ added) (drop_of_length-le plain {i = c.plain} (omega arith))

  -- the first of those, which stands at the cursor's place
  pub added-first : CursorStands counts images c → AtAdded counts c → get_or (remaining plain counts images c) 0 [] ≡ get_or (clauses_at (row_of counts images c) c.place) 0 []
  added-first p at =
      ap (λ (l : List (List ℕ)). get_or l 0 []) (past-plain at.past)
      ∙ here-first counts images c.row p.rows at.row c.place (clause-stands counts images c p at.row)

  pub added-head : CursorStands counts images c → AtAdded counts c
      → remaining plain counts images c ≡ get_or (clauses_at (row_of counts images c) c.place) 0 [] ∷ drop 1 (remaining plain counts images c)
  added-head p at =
      let some = here-some counts images c.row p.rows at.row c.place (clause-stands counts images c p at.row) in
      drop-step (remaining plain counts images c) 0 [] (omega (arith, some, ap length (past-plain at.past)))
      ∙ ap (λ (clause : List ℕ). clause ∷ drop 1 (remaining plain counts images c)) (added-first p at)

  pub some_left : 0 < length (remaining plain counts images c) → ClauseRemains counts c
  some_left some h = go (lt-or-le c.row counts.rows)
    where
      go : (c.row < counts.rows) ⊎ (counts.rows ≤ c.row) → c.row < counts.rows
      go (inl l) = l
      go (inr l) = absurd (omega (arith, ap length (past-plain h ∙ nothing-added counts images c.row l c.place)))

-- past clauses that a row adds
pub past-added : (counts : Record) (images : List ℕ) (c d : Cursor) → counts.clauses ≤ c.plain → d.plain ≡ c.plain → (clauses : List (List ℕ))
    → added_from counts images c.row c.place ≡ clauses ++ added_from counts images d.row d.place
    → (plain : List (List ℕ)) → length plain ≡ counts.clauses → remaining plain counts images c ≡ clauses ++ remaining plain counts images d
past-added counts images c d h same clauses e plain many =
    past-plain plain counts many images c h ∙ e ∙ ap (λ (l : List (List ℕ)). clauses ++ l) (sym (past-plain plain counts many images d (omega arith)))
