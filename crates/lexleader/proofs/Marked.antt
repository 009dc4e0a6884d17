-- A row by the marks of what is left out: how many of its variables have no mark, and where the next one is. Assumes nothing.
use mathlib.Core.Path.{◌≡◌, refl, sym, ap, ◌∙◌}
use mathlib.Core.Bool.{Bool, true, false, not, cond}
use mathlib.Core.List.{List, [], ◌∷◌}
use Prim.Native.Nat.{ℕ, suc, ◌+◌, ◌*◌, ◌≤◌, ◌<◌}
use native.Mathlib.Nat.{add-zero}
use native.Mathlib.Omega.{arith}
use mir.Val.{bool_byte}
use lib.ListN.{length, get_or, take, drop, drop_of_length-le}
use lib.Seq.{get_or-take, length-take-le}
use Rattle.lists.proofs.Steps.{drop-step}
use Rattle.lists.proofs.TableLaws.{length-table, get_or-table}
use Rattle.cycles.specs.Cycles.{left_out}
use Rattle.cycles.specs.Marks.{marks_of, unmarked}
use Rattle.lexleader.specs.Rows.{pairs_but, pairs_of}
use Rattle.lexleader.specs.Clause.{pair_at, pairs_at}
use Rattle.lexleader.proofs.Walk.{walk-past, walk_here}

-- the marks of a row: as many as it has variables, each what the definition says
module _ (row : List ℕ) {marks : List Bool} (are : marks ≡ marks_of row) where
  pub marks-length : length marks ≡ length row
  unfolding marks_of
  marks-length = ap length are ∙ length-table (length row) (λ k. left_out row (k + 1))

  pub mark-at : (i : ℕ) → i < length marks → get_or marks i false ≡ left_out row (i + 1)
  unfolding marks_of
  mark-at i h = ap (λ (l : List Bool). get_or l i false) are ∙ get_or-table (length row) (λ k. left_out row (k + 1)) i false (omega (arith, marks-length))

-- ---- a count of marks

module _ (marks : List Bool) (i : ℕ) where
  pub unmarked-step : i < length marks
      → (unmarked (drop i marks) ≡ bool_byte (not (get_or marks i false)) + unmarked (drop (i + 1) marks)) × (bool_byte (not (get_or marks i false)) ≤ 1)
  unfolding unmarked
  unmarked-step h = rw (drop-step marks i false h) (by (get_or marks i false) (unmarked (drop (i + 1) marks)))
    where
      by : (b : Bool) (k : ℕ) → (cond b 0 1 + k ≡ bool_byte (not b) + k) × (bool_byte (not b) ≤ 1)
      by true k = (refl, omega arith)
      by false k = (refl, omega arith)

  pub unmarked-end : length marks ≤ i → unmarked (drop i marks) ≡ 0
  unfolding unmarked
  unmarked-end h = rw (drop_of_length-le marks {i = i} h)

-- ---- is a count of pairs: of a row, and of its first k variables

pairs-count : (out : ℕ → Bool) (i : ℕ) (row : List ℕ) (marks : List Bool) → length marks ≡ length row
    → ((j : ℕ) → j < length marks → get_or marks j false ≡ out (i + j)) → length (pairs_but out i row) ≡ unmarked marks
unfolding pairs_but unmarked
pairs-count out i [] [] size are = refl
pairs-count out i [] (mark ∷ marks) size are = absurd (omega arith)
pairs-count out i (y ∷ row) [] size are = absurd (omega arith)
pairs-count out i (y ∷ row) (mark ∷ marks) size are =
    by mark (sym (rw add-zero at (are 0 (omega arith))))
    (pairs-count out (i + 1) row marks (omega arith) (λ j h. let next : i + 1 + j ≡ i + suc j = omega arith in rw next (are (suc j) (omega arith))))
  where
    by : (b : Bool) → out i ≡ b → length (pairs_but out (i + 1) row) ≡ unmarked marks
        → length (cond (out i) (pairs_but out (i + 1) row) (record { x = 2 * i; y = y } ∷ pairs_but out (i + 1) row)) ≡ cond b 0 1 + unmarked marks
    by true e rest = rw e (omega arith)
    by false e rest = rw e (omega arith)

module _ (row : List ℕ) {marks : List Bool} (are : marks ≡ marks_of row) where
  from_one : (j : ℕ) → j < length marks → get_or marks j false ≡ left_out row (1 + j)
  from_one j h = let next : j + 1 ≡ 1 + j = omega arith in rw next at (mark-at row are j h)

  pub pairs-unmarked : length (pairs_of row) ≡ unmarked marks
  unfolding pairs_of
  pairs-unmarked = pairs-count (left_out row) 1 row marks (marks-length row are) from_one

  pub pairs-unmarked-to : (k : ℕ) → k ≤ length row → length (pairs_but (left_out row) 1 (take k row)) ≡ unmarked (take k marks)
  pairs-unmarked-to k h =
      let size = length-take-le k marks (omega (arith, marks-length row are)) in
      pairs-count (left_out row) 1 (take k row) (take k marks) (size ∙ sym (length-take-le k row h))
      (λ j l. let inside : j < k = omega (arith, size) in get_or-take k marks j false inside ∙ from_one j (omega (arith, marks-length row are)))

  -- ---- a walk from mark to mark

  pub marked-past : (i : ℕ) → i < length marks → get_or marks i false ≡ true → pairs_at i row ≡ pairs_at (i + 1) row
  marked-past i h e = walk-past (left_out row) row i (omega (arith, marks-length row are)) (sym (mark-at row are i h) ∙ e)

  pub marked-here : (i : ℕ) → i < length marks → get_or marks i false ≡ false → pairs_at i row ≡ pair_at row i ∷ pairs_at (i + 1) row
  marked-here i h e = walk_here (left_out row) row i (omega (arith, marks-length row are)) (sym (mark-at row are i h) ∙ e)
