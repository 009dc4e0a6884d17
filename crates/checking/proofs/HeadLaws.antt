-- The clause at a cursor, the first of those that are left: a plain one, or the one at the cursor's place in its row; and the six clauses of an auxiliary there. Assumes nothing.
use mathlib.Core.Path.{◌≡◌, sym, ap, ◌∙◌}
use mathlib.Core.Bool.{Bool, true}
use mathlib.Core.List.{List, []}
use Prim.Native.Nat.{ℕ, ◌≤◌, ◌<◌}
use native.Mathlib.Omega.{arith}
use lib.ListN.{length, get_or}
use Rattle.lists.specs.Tests.{all_of}
use Rattle.store.specs.Literals.{is_literal}
use Rattle.store.specs.Stores.{Store, clause_at, plain_of, is_formed}
use Rattle.store.specs.declared.record.Record.{Record}
use Rattle.store.proofs.Formed.{formed}
use Rattle.store.proofs.Within.{formed-formula, clause-good}
use Rattle.lexleader.specs.Places.{clauses_at, six_at, ClauseStands}
use Rattle.lexleader.proofs.MadeLaws.{plain-length, plain_at}
use Rattle.cursor.specs.Cursors.{added_from, remaining_of, row_of, CursorStands, ClauseRemains, AtAuxiliary}
use Rattle.cursor.specs.declared.Cursor.{Cursor}
use Rattle.cursor.proofs.RowLaws.{size, here-six}
use Rattle.cursor.proofs.CursorLaws.{clause-stands, next-plain, added-first}
use Rattle.checking.specs.Reading.{TableOf}
use Rattle.checking.specs.SixClauses.{LiteralsWithin}
use Rattle.checking.proofs.CheckLaws.{front-within}

module _ (s : Store) (good : is_formed s ≡ true) (at : Cursor) where
  -- a plain clause: its literals are of the plain variables
  module _ (more : at.plain < s.counts.clauses) {part : List ℕ} (is : part ≡ clause_at s.literals s.ends at.plain) where
    pub plain-good : all_of (is_literal s.counts.variables) part ≡ true
    plain-good = rw is (clause-good _ _ _ _ (formed-formula s (formed s good)) _ more)

    pub plain-first : part ≡ get_or (remaining_of s at) 0 []
    plain-first =
        let left = next-plain (plain_of s) s.counts (plain-length s good) s.images at more in
        is ∙ sym (ap (λ (l : List (List ℕ)). get_or l 0 []) left ∙ plain_at s good at.plain more)

  -- a clause that a row adds
  pub row-first : CursorStands s.counts s.images at → s.counts.clauses ≤ at.plain → ClauseRemains s.counts at
      → {row clause : List ℕ} → row ≡ row_of s.counts s.images at → clause ≡ get_or (clauses_at row at.place) 0 [] → clause ≡ get_or (remaining_of s at) 0 []
  row-first stands past more is are =
      are
      ∙ ap (λ (row : List ℕ). get_or (clauses_at row at.place) 0 []) is
      ∙ sym (added-first (plain_of s) s.counts (plain-length s good) s.images at stands (record { past = past; row = more past }))

-- the six clauses of the auxiliary at a cursor, and the row and the table that they are read from
module _ (counts : Record) (images : List ℕ) (at : Cursor) (stands : CursorStands counts images at) (here : AtAuxiliary counts at) where
  pub six-there : (k : ℕ) {row : List ℕ} → row ≡ row_of counts images at → {values : List Bool} {a : List ℕ} → TableOf counts.variables values a
      → LiteralsWithin k (added_from counts images at.row at.place)
      → ClauseStands row at.place × (at.place.next < length row) × TableOf (length row) values a × LiteralsWithin k (six_at row at.place)
  six-there k is table within =
      let there = here.added.row in
      let clause = clause-stands counts images at stands there in
      let six = here-six counts images at.row stands.rows there at.place clause here.first here.more in
      let long : length (row_of counts images at) ≡ counts.variables = size counts images at.row stands.rows there in
      rw is (clause, omega (arith, here.more, long), rw long table, front-within (all_of (is_literal k)) (six_at (row_of counts images at) at.place) six.0 six.1 within)
