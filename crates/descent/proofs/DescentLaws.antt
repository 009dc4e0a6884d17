-- The rows of a store, one after the other, and a descent by them, turn by turn: what is left of it is the descent from the assignment reached.
-- Assumes nothing.
use mathlib.Core.Path.{◌≡◌, refl, sym, ◌∙◌}
use mathlib.Core.Bool.{Bool, true, false}
use mathlib.Core.List.{List}
use Prim.Native.Nat.{ℕ, zero, suc, ◌+◌, ◌-◌, ◌≤◌, ◌<◌}
use native.Mathlib.Omega.{arith}
use lib.ListN.{length}
use Rattle.store.specs.Stores.{rows_of, rows_from, row_at, FormedRows}
use Rattle.store.proofs.RowLaws.{from-here, from_end}
use Rattle.store.proofs.RowParts.{part-size}
use Rattle.lexleader.specs.Rows.{moved, lowers}
use Rattle.lexleader.specs.Descent.{rest, to, step_by, settled, spent, descend_from, descend}
use Rattle.valuation.specs.Tables.{bits_in, Table}
use Rattle.descent.specs.declared.Descended.{Descended}
use Rattle.descent.specs.Words.{answer_of, reached_by, outcome_of}

-- ---- the search for a row

module _ (n rows : ℕ) (images : List ℕ) (bits : List Bool) (r : ℕ) where
  -- row r is the first that lowers
  pub step-found : r < rows → step_by (rows_of n rows images) bits ≡ step_by (rows_from n rows images r) bits → lowers (row_at n r images) bits ≡ true
      → (r < rows) × (step_by (rows_of n rows images) bits ≡ to (moved (row_at n r images) bits))
  unfolding step_by
  step-found h on e = (h, on ∙ rw (from-here n rows images r h, e))

  pub step-on : r < rows → lowers (row_at n r images) bits ≡ false → step_by (rows_from n rows images r) bits ≡ step_by (rows_from n rows images (r + 1)) bits
  unfolding step_by
  step-on h e = rw (from-here n rows images r h, e)

  pub step_end : rows ≤ r → step_by (rows_from n rows images r) bits ≡ rest
  unfolding step_by
  step_end h = rw (from_end n rows images r h)

-- what is said of the part of the slice that is row r is said of the row
pub row-says : {n rows r : ℕ} {images part : List ℕ} (values : List Bool) {b : Bool} → FormedRows n rows images → r < rows → part ≡ row_at n r images
    → b ≡ lowers part (bits_in (length part) values) → lowers (row_at n r images) (bits_in n values) ≡ b
row-says values f h is e = sym (rw (part-size f _ h _ is, is) at e)

-- ---- a turn of the descent

module _ (moves : ℕ) (rows : List (List ℕ)) (a : List Bool) where
  settles : (more : ℕ) → step_by rows a ≡ rest → descend_from moves more rows a ≡ settled moves a
  unfolding descend_from
  settles zero e = rw (e, descend_from)
  settles (suc more) e = rw (e, descend_from)

  spends : (b : List Bool) → step_by rows a ≡ to b → descend_from moves 0 rows a ≡ spent moves a
  unfolding descend_from
  spends b e = rw (e, descend_from)

  moves-on : (more : ℕ) (b : List Bool) → step_by rows a ≡ to b → descend_from moves (suc more) rows a ≡ descend_from (moves + 1) more rows b
  unfolding descend_from
  moves-on more b e = rw (e, descend_from)

-- The descent from `start` after some moves: from the assignment of the table it comes to what it does.
pub record Reached (n limit : ℕ) (rows : List (List ℕ)) (start values : List Bool) (moves : ℕ) : Type 0 where
  pub most : moves ≤ limit
  pub table : Table n values
  pub same : descend limit rows start ≡ descend_from moves (limit - moves) rows (bits_in n values)

-- what a descent answers, and what the table is then of
abbrev DescentEnds : ℕ → ℕ → List (List ℕ) → List Bool → Descended → List Bool → Type 0
DescentEnds n limit rows start answer values =
    (outcome_of answer ≡ answer_of (descend limit rows start)) × (Table n values × (bits_in n values ≡ reached_by (descend limit rows start)))

module _ (n limit : ℕ) (rows : List (List ℕ)) where
  module _ (start values : List Bool) (moves : ℕ) (r : Reached n limit rows start values moves) where
    pub ends-settled : step_by rows (bits_in n values) ≡ rest → DescentEnds n limit rows start (Descended.Settled moves) values
    ends-settled e =
        let end = r.same ∙ settles moves rows (bits_in n values) (limit - moves) e in
        rw end (refl, (r.table, refl))

    pub ends-spent : (b : List Bool) → moves ≡ limit → step_by rows (bits_in n values) ≡ to b → DescentEnds n limit rows start (Descended.Spent moves) values
    ends-spent b q e =
        let none : limit - moves ≡ 0 = omega arith in
        let end = (rw none at r.same) ∙ spends moves rows (bits_in n values) b e in
        rw end (refl, (r.table, refl))

    pub reached-more : (b next : List Bool) → (moves ≡ limit → ⊥) → step_by rows (bits_in n values) ≡ to b → Table n next → bits_in n next ≡ b
        → Reached n limit rows start next (moves + 1)
    reached-more b next q e table is =
        let one : limit - moves ≡ suc (limit - (moves + 1)) = omega (arith, r.most) in
        record {
          most = omega (arith, r.most);
          table = table;
          same = (rw one at r.same) ∙ moves-on moves rows (bits_in n values) (limit - (moves + 1)) b e ∙ rw is;
        }
