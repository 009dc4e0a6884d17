-- How many auxiliaries and clauses rows add: the sums of specs/Sizes.antt. The number of a row's first auxiliary does not change how many. Assumes nothing.
use mathlib.Core.Path.{◌≡◌, refl, sym, ◌∙◌}
use mathlib.Core.List.{List, [], ◌∷◌}
use mathlib.Core.Logic.{⊎_elim}
use Prim.Native.Nat.{ℕ, ◌+◌, ◌-◌, ◌*◌, ◌/◌, ◌≤◌, ◌<◌}
use native.Mathlib.Decide.{ℕ_discrete}
use native.Mathlib.Omega.{arith}
use borrow.Author.Tests.{eq-eqb, ne_eqb}
use lib.ListN.{length, length-append}
use Rattle.lists.proofs.Cases.{lt-or-le}
use Rattle.store.specs.Stores.{max_variables}
use Rattle.lexleader.specs.Rows.{Pair, pairs_of}
use Rattle.lexleader.specs.Made.{later_clauses, pair_clauses, row_clauses, auxiliaries, rows_clauses, all_auxiliaries}
use Rattle.lexleader.proofs.Walk.{pairs-length}
use Rattle.lexleader.specs.Sizes.{sum_over, auxiliaries_for, clauses_for}

later-length : (d : ℕ) (q : Pair) (pairs : List Pair) → length (later_clauses d q pairs) ≡ 6 * length pairs
unfolding later_clauses
later-length d q [] = refl
later-length d q (p ∷ pairs) = omega (arith, later-length (d + 1) p pairs)

module _ (k : ℕ) where
  many : 2 ≤ k → clauses_for k ≡ 6 * (k - 1)
  many h = rw (ne_eqb k 1 (λ one. omega arith))

  few : k < 2 → clauses_for k ≡ k
  few h = by (ℕ_discrete k 1)
    where
      by : Dec (k ≡ 1) → clauses_for k ≡ k
      by (yes one) = rw (eq-eqb k 1 one) (sym one)
      by (no none) = rw (ne_eqb k 1 none) (omega arith)

pair-clauses-length : (e : ℕ) (pairs : List Pair) → length (pair_clauses e pairs) ≡ clauses_for (length pairs)
unfolding pair_clauses
pair-clauses-length e [] = refl
pair-clauses-length e (q ∷ []) = refl
pair-clauses-length e (q ∷ p ∷ pairs) = omega (arith, later-length e p pairs, many (length (q ∷ p ∷ pairs)) (omega arith))

module _ (e : ℕ) (row : List ℕ) where
  row-length : length (row_clauses e row) ≡ clauses_for (length (pairs_of row))
  unfolding row_clauses
  row-length = pair-clauses-length e (pairs_of row)

  pub row-few : length (pairs_of row) < 2 → length (row_clauses e row) ≡ length (pairs_of row)
  row-few h = row-length ∙ few (length (pairs_of row)) h

  pub row-many : 2 ≤ length (pairs_of row) → length (row_clauses e row) ≡ 6 * (length (pairs_of row) - 1)
  row-many h = row-length ∙ many (length (pairs_of row)) h

  pub row-most : length (row_clauses e row) ≤ 6 * length (pairs_of row)
  row-most = ⊎_elim (λ l. omega (arith, row-few l)) (λ l. omega (arith, row-many l)) (lt-or-le (length (pairs_of row)) 2)

  -- clause q's auxiliary is one of the row's
  pub clause-auxiliary : {q : ℕ} → length row ≤ max_variables → q < length (row_clauses e row)
      → (q / 6 + 1 ≤ length (pairs_of row)) × (q / 6 + 1 ≤ max_variables)
  clause-auxiliary small h = (omega (arith, row-most), omega (arith, row-most, pairs-length row))

pub rows-auxiliaries : (rows : List (List ℕ)) → all_auxiliaries rows ≡ sum_over auxiliaries_for rows
unfolding all_auxiliaries auxiliaries sum_over
rows-auxiliaries [] = refl
rows-auxiliaries (row ∷ rows) = omega (arith, rows-auxiliaries rows)

pub rows-clauses : (e : ℕ) (rows : List (List ℕ)) → length (rows_clauses e rows) ≡ sum_over clauses_for rows
unfolding rows_clauses sum_over
rows-clauses e [] = refl
rows-clauses e (row ∷ rows) = rw (length-append, row-length e row, rows-clauses (e + auxiliaries row) rows)

pub rows-length : (d e : ℕ) (rows : List (List ℕ)) → length (rows_clauses d rows) ≡ length (rows_clauses e rows)
rows-length d e rows = rows-clauses d rows ∙ sym (rows-clauses e rows)
