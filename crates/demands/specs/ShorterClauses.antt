-- Document 02, CR 9, sentence by sentence: "Shorter clauses for each cycle". `shorter-clauses` (proofs/ShorterClauses.antt) says that it holds. What is left out is `left_out` (cycles,
-- specs/Cycles.antt), "the rest", with their images, is `pairs_of` (lexleader, specs/Rows.antt): N, M, the clauses, the text, filling in and checking are said by it alone, and so are
-- `Demand3` and, "by the table and by CR 6's rule for k = 1", `TurnsSigns`. The listing's example is computed (lexleader, proofs/Examples.antt; proofs/Starred.antt). Assumes nothing.
use Rattle.std.specs.Prelude.{◌≡◌, Bool, true, List, [], ◌↔◌, ℕ, ◌≤◌, length}
use Rattle.lists.specs.Tests.{has, distinct}
use Rattle.packed.specs.Order.{value_of}
use Rattle.store.specs.Stores.{Store, plain_of, held_rows, is_row, is_formed}
use Rattle.store.specs.Identity.{identity}
use Rattle.cycles.specs.Cycles.{sent_to, cycle_of, is_largest}
use Rattle.lexleader.specs.Models.{literal_value}
use Rattle.lexleader.specs.Rows.{pairs_of, moved_pairs}
use Rattle.lexleader.specs.Deciding.{deciding, lowers_along}
use Rattle.lexleader.specs.Made.{made_variables}
use Rattle.lexleader.specs.Kept.{Kept}
use Rattle.lexleader.specs.Longer.{variables_by, KeptLonger}

-- z is "its largest variable", of the cycle of i: one of it that is the largest of its own cycle, and no other is
pub record Largest (row : List ℕ) (i z : ℕ) : Type 0 where
  pub member : has (cycle_of row i) z ≡ true
  pub largest : is_largest row z ≡ true
  pub only : (y : ℕ) → has (cycle_of row i) y ≡ true → is_largest row y ≡ true → y ≡ z

pub record ShorterClauses : Type 0 where
  -- "once round the cycle": its list has each variable once, and with each the one that the row sends it to
  pub once : (n : ℕ) (row : List ℕ) → is_row n row ≡ true → (i : ℕ) → 1 ≤ i → i ≤ n
      → (distinct (cycle_of row i) ≡ true) × ((x : ℕ) → has (cycle_of row i) x ≡ true → has (cycle_of row i) (sent_to row x) ≡ true)
  -- "each cycle of a row": all variables of one have the same
  pub cycles : (n : ℕ) (row : List ℕ) → is_row n row ≡ true → (i z : ℕ) → 1 ≤ i → i ≤ n → has (cycle_of row i) z ≡ true
      → (x : ℕ) → (has (cycle_of row z) x ≡ true) ↔ (has (cycle_of row i) x ≡ true)
  -- "its largest variable": each has one
  pub largest : (n : ℕ) (row : List ℕ) → is_row n row ≡ true → (i : ℕ) → 1 ≤ i → i ≤ n → (z : ℕ) × Largest row i z
  -- none is left, k = 0, only of a row that moves nothing
  pub none : (n : ℕ) (row : List ℕ) → is_row n row ≡ true → (pairs_of row ≡ []) ↔ (row ≡ identity n)
  -- "The solver's memory fills with auxiliaries": whatever the rows, there are never more than the longer form has
  pub fewer : (n : ℕ) (rows : List (List ℕ)) → made_variables n rows ≤ variables_by moved_pairs n rows
  -- to compare an assignment with what a row makes of it on what is left decides as on all moved variables, and at the same one: for every row, symmetry or not
  pub decides : (n : ℕ) (row : List ℕ) → is_row n row ≡ true → (a : List Bool) → length a ≡ n → let value = literal_value (value_of a) in
      (lowers_along value (pairs_of row) ≡ lowers_along value (moved_pairs row)) × (deciding value (pairs_of row) ≡ deciding value (moved_pairs row))
  -- "the kept models are exactly those of the longer form, whatever rows are held": of every well-formed store
  pub kept : (s : Store) → is_formed s ≡ true → (a : List Bool)
      → Kept s.counts.variables (plain_of s) (held_rows s) a ↔ KeptLonger s.counts.variables (plain_of s) (held_rows s) a
