-- The figures of a well-formed store are within the paper's bounds (document 02, CR 10), and so, by the limits, within those that include/symbreak.h gives. Assumes nothing.
use mathlib.Core.Path.{◌≡◌, refl, sym, ◌∙◌}
use mathlib.Core.Bool.{true}
use mathlib.Core.Logic.{◌⊎◌, inl, inr}
use mathlib.Core.List.{List, [], ◌∷◌, Memᴰ}
use Prim.Native.Nat.{ℕ, zero, suc, ◌+◌, ◌-◌, ◌*◌, ◌≤◌, ◌<◌}
use native.Mathlib.Omega.{arith}
use borrow.Author.Tests.{eq-eqb, ne_eqb}
use lib.ListN.{length, take, drop, length-append, length-take}
use Rattle.lists.specs.Sums.{sum_of}
use Rattle.lists.proofs.Cases.{lt-or-le}
use Rattle.lists.proofs.Sums.{sum-append}
use Rattle.store.specs.Stores.{Store, max_variables, rows_of, plain_of, held_rows, is_formed}
use Rattle.store.proofs.Demands.{rest_of}
use Rattle.lexleader.specs.Rows.{pairs_of}
use Rattle.lexleader.specs.Made.{row_clauses, auxiliaries, rows_clauses, all_auxiliaries, made, made_variables}
use Rattle.lexleader.specs.Store.{made_of, variables_of, clauses_of}
use Rattle.lexleader.proofs.Walk.{pairs-length}
use Rattle.lexleader.proofs.Numbers.{row-few, row-most}
use Rattle.lexleader.proofs.Bounds.{auxiliaries-most}
use Rattle.lexleader.proofs.MadeLaws.{added_of, clauses-are}
use Rattle.lexleader.proofs.StoreBounds.{clauses-most}
use Rattle.render.specs.Text.{clause_line}
use Rattle.emit.specs.Emit.{header_of, lines_of, text_of, max_header}
use Rattle.emit.proofs.Bounds.{header-most, line-most}
use Rattle.measure.specs.Figures.{figures_of, max_made_literals, max_made_bytes}
use Rattle.measure.specs.Shares.{literals_for}
use Rattle.measure.proofs.Shares.{row-literals}
use Rattle.measure.proofs.Plain.{plain-literals}

-- ---- a row of at most n images: n auxiliaries, 6 n clauses, 19 n literals

module _ (count clauses : ℕ) where
  literals-many : 0 < count → literals_for count clauses ≡ 19 * count - 2
  literals-many some = rw (ne_eqb count 0 (λ none. omega arith))

  literals-few : count ≡ 0 → literals_for count clauses ≡ 2 * clauses
  literals-few none = rw (eq-eqb count 0 none)

few-pairs : (row : List ℕ) → auxiliaries row ≤ 0 → length (pairs_of row) < 2
unfolding auxiliaries
few-pairs row h = omega arith

row-literals-most : (e n : ℕ) (row : List ℕ) → length row ≤ n → (sum_of length (row_clauses e row) ≤ 19 * n) × (2 ≤ n → sum_of length (row_clauses e row) ≤ 19 * (n - 1) - 2)
row-literals-most e n row h = by (lt-or-le 0 (auxiliaries row))
  where
    by : (0 < auxiliaries row) ⊎ (auxiliaries row ≤ 0)
        → (sum_of length (row_clauses e row) ≤ 19 * n) × (2 ≤ n → sum_of length (row_clauses e row) ≤ 19 * (n - 1) - 2)
    by (inl some) =
        let is = sym (row-literals e row) ∙ literals-many (auxiliaries row) (length (row_clauses e row)) some in
        (omega (arith, is, auxiliaries-most row), λ many. omega (arith, is, auxiliaries-most row))
    by (inr none) =
        let is = sym (row-literals e row) ∙ literals-few (auxiliaries row) (length (row_clauses e row)) (omega arith) in
        let few = row-few e row (few-pairs row none) in
        (omega (arith, is, few, few-pairs row none, pairs-length row), λ many. omega (arith, is, few, few-pairs row none))

-- ---- rows of n images

module _ (n : ℕ) where
  added-variables : (rows : ℕ) (images : List ℕ) → all_auxiliaries (rows_of n rows images) ≤ rows * n
  unfolding all_auxiliaries rows_of
  added-variables zero images = omega arith
  added-variables (suc rows) images =
      omega (arith, auxiliaries-most (take n images), length-take n images, added-variables rows (drop n images))

  added-clauses : (e rows : ℕ) (images : List ℕ) → length (rows_clauses e (rows_of n rows images)) ≤ 6 * (rows * n)
  unfolding rows_clauses rows_of
  added-clauses e zero images = omega arith
  added-clauses e (suc rows) images =
      let row = take n images in
      let after = e + auxiliaries row in
      omega (
        arith,
        length-append (row_clauses e row) (rows_clauses after (rows_of n rows (drop n images))),
        row-most e row,
        pairs-length row,
        length-take n images,
        added-clauses after rows (drop n images),
      )

  added-literals : (e rows : ℕ) (images : List ℕ) → sum_of length (rows_clauses e (rows_of n rows images)) ≤ 19 * (rows * n)
  unfolding rows_clauses rows_of sum_of
  added-literals e zero images = omega arith
  added-literals e (suc rows) images =
      let row = take n images in
      let after = e + auxiliaries row in
      omega (
        arith,
        sum-append length (row_clauses e row) (rows_clauses after (rows_of n rows (drop n images))),
        (row-literals-most e n row (omega (arith, length-take n images))).0,
        added-literals after rows (drop n images),
      )

  added-literals-most : (e rows : ℕ) (images : List ℕ) → n ≤ max_variables → sum_of length (rows_clauses e (rows_of n rows images)) ≤ rows * (19 * (max_variables - 1) - 2)
  unfolding rows_clauses rows_of sum_of
  added-literals-most e zero images small = omega arith
  added-literals-most e (suc rows) images small =
      let row = take n images in
      let after = e + auxiliaries row in
      omega (
        arith,
        sum-append length (row_clauses e row) (rows_clauses after (rows_of n rows (drop n images))),
        (row-literals-most e max_variables row (omega (arith, length-take n images))).1 (omega arith),
        added-literals-most after rows (drop n images) small,
      )

-- ---- lines, each of at most 7 bytes to a literal, and 2

lines-most : (clauses : List (List ℕ)) → ((clause : List ℕ) → Memᴰ clause clauses → length (clause_line clause) ≤ 7 * length clause + 2)
    → length (lines_of clauses) ≤ 7 * sum_of length clauses + 2 * length clauses
unfolding lines_of sum_of
lines-most [] each = omega arith
lines-most (clause ∷ clauses) each =
    omega (arith, length-append (clause_line clause) (lines_of clauses), each clause (Memᴰ.head refl), lines-most clauses (λ c m. each c (Memᴰ.tail m)))

-- ---- the store's

module _ (s : Store) (well : is_formed s ≡ true) where
  abbrev rows-images : ℕ
  rows-images = s.counts.rows * s.counts.variables

  pub variables-within : (figures_of s).variables ≤ s.counts.variables + rows-images
  unfolding figures_of variables_of made_variables held_rows
  variables-within = omega (arith, added-variables s.counts.variables s.counts.rows s.images)

  pub clauses-within : (figures_of s).clauses ≤ s.counts.clauses + 6 * rows-images
  unfolding figures_of held_rows
  clauses-within = omega (arith, clauses-are s well, added-clauses s.counts.variables (s.counts.variables + 1) s.counts.rows s.images)

  pub literals-within : (figures_of s).literals ≤ sum_of length (plain_of s) + 19 * rows-images
  unfolding figures_of made_of made held_rows
  literals-within =
      omega (
        arith,
        sum-append length (plain_of s) (added_of s well),
        added-literals s.counts.variables (s.counts.variables + 1) s.counts.rows s.images,
      )

  pub literals-most : (figures_of s).literals ≤ max_made_literals
  unfolding figures_of made_of made held_rows
  literals-most =
      let r = rest_of s well in
      omega (
        arith,
        sum-append length (plain_of s) (added_of s well),
        plain-literals s well,
        r.literals-fit,
        r.rows_fit,
        added-literals-most s.counts.variables (s.counts.variables + 1) s.counts.rows s.images r.variables-fit,
      )

  pub bytes-within : (figures_of s).bytes ≤ max_header + 7 * (figures_of s).literals + 2 * (figures_of s).clauses
  unfolding figures_of text_of clauses_of
  bytes-within = omega (arith, length-append (header_of s) (lines_of (made_of s)), header-most s well, lines-most (made_of s) (line-most s well))

  pub bytes_most : (figures_of s).bytes ≤ max_made_bytes
  unfolding figures_of
  bytes_most = omega (arith, bytes-within, literals-most, clauses-most s well)
