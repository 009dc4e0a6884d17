-- A store whose rows change, and nothing else: well formed where the new rows are. A row more behind those held, and the newest row taken back. Assumes nothing.
use mathlib.Core.Path.{◌≡◌, sym, ap, ◌∙◌}
use mathlib.Core.Bool.{true}
use mathlib.Core.List.{List, [], ◌∷◌, ◌++◌}
use Prim.Native.Nat.{ℕ, ◌+◌, ◌-◌, ◌*◌, ◌≤◌, ◌<◌}
use native.Mathlib.Nat.{mul-le-mul_right}
use native.Mathlib.Omega.{arith}
use lib.ListN.{length, take, drop, take-append-drop}
use Rattle.lists.specs.Tests.{all_of}
use Rattle.lists.proofs.Cases.{and_l, and_both}
use Rattle.lists.proofs.Members.{all_append}
use Rattle.store.specs.Stores.{Store, with_rows, with_row, without_row, max_rows, rows_of, held_rows, is_row, is_formed}
use Rattle.store.proofs.Demands.{rest_of, rows-of, rows-decide}
use Rattle.store.proofs.RowLaws.{appended-rows, appended-length, rows-fewer, rows-count}

pub with-rows-formed : (s : Store) (k : ℕ) (images : List ℕ) → is_formed s ≡ true → k ≤ max_rows → k * s.counts.variables ≤ length images
    → all_of (is_row s.counts.variables) (rows_of s.counts.variables k images) ≡ true → is_formed (with_rows s k images) ≡ true
unfolding held_rows
with-rows-formed s k images e few fits good =
    let r = rest_of s e in
    rows-decide (with_rows s k images) (record {
      variables-fit = r.variables-fit;
      clauses-fit = r.clauses-fit;
      rows_fit = few;
      ends-long = r.ends-long;
      ends-rise = r.ends-rise;
      literals-fit = r.literals-fit;
      literals-long = r.literals-long;
      literals-good = r.literals-good;
      images-long = fits;
    })
    ∙ good

pub held-count : (s : Store) → length (held_rows s) ≡ s.counts.rows
unfolding held_rows
held-count s = rows-count s.counts.variables s.counts.rows s.images

-- ---- a row more

module _ (s : Store) (row : List ℕ) (size : length row ≡ s.counts.variables) (room : (s.counts.rows + 1) * s.counts.variables ≤ length s.images) where
  pub with-row-held : held_rows (with_row s row) ≡ held_rows s ++ (row ∷ [])
  unfolding held_rows
  with-row-held = appended-rows s.counts.variables s.counts.rows s.images row size (omega arith)

  pub with-row-images : length (with_row s row).images ≡ length s.images
  with-row-images = appended-length s.counts.variables s.counts.rows s.images row size (omega arith)

  pub with-row-formed : is_formed s ≡ true → is_row s.counts.variables row ≡ true → s.counts.rows < max_rows → is_formed (with_row s row) ≡ true
  unfolding all_of held_rows
  with-row-formed e good few =
      with-rows-formed s (s.counts.rows + 1) (with_row s row).images e (omega arith) (omega (arith, with-row-images))
      (rw with-row-held (all_append (is_row s.counts.variables) (held_rows s) (row ∷ []) ∙ and_both (rows-of s e) (rw good)))

-- ---- the newest row taken back

pub without-row-held : (s : Store) → held_rows (without_row s) ≡ take (length (held_rows s) - 1) (held_rows s)
unfolding held_rows
without-row-held s = rw (held-count s) (rows-fewer s.counts.variables (s.counts.rows - 1) s.counts.rows s.images (omega arith))

pub without-row-formed : (s : Store) → is_formed s ≡ true → is_formed (without_row s) ≡ true
unfolding held_rows
without-row-formed s e =
    let n : ℕ = s.counts.variables in
    let r = rest_of s e in
    let fewer : s.counts.rows - 1 ≤ s.counts.rows = omega arith in
    let kept : List (List ℕ) = take (length (held_rows s) - 1) (held_rows s) in
    let dropped : List (List ℕ) = drop (length (held_rows s) - 1) (held_rows s) in
    let all : all_of (is_row n) (kept ++ dropped) ≡ true = ap (all_of (is_row n)) (take-append-drop (length (held_rows s) - 1) (held_rows s)) ∙ rows-of s e in
    with-rows-formed s (s.counts.rows - 1) s.images e (omega (arith, r.rows_fit)) (omega (arith, mul-le-mul_right n fewer, r.images-long))
    (rw (without-row-held s) (and_l (all_of (is_row n) kept) (all_of (is_row n) dropped) (sym (all_append (is_row n) kept dropped) ∙ all)))
