-- The settings of a row's auxiliaries as two runs, how far its variables agree with their images, and what the settings of all rows come to.
-- Assumes nothing.
use mathlib.Core.Path.{◌≡◌, refl, sym, ◌∙◌}
use mathlib.Core.Bool.{Bool, true, false, cond, beq}
use mathlib.Core.List.{List, [], ◌∷◌, ◌++◌, append-nil}
use mathlib.Core.Logic.{⊎_elim}
use Prim.Native.Nat.{ℕ, suc, ◌+◌, ◌-◌, ◌*◌, ◌/◌, ◌≤◌, ◌<◌, min}
use native.Mathlib.Omega.{arith}
use lib.ListN.{length, take, replicate, length-append}
use Rattle.lists.proofs.Cases.{lt-or-le}
use Rattle.packed.specs.Words.{max_words, bits_of, word_count}
use Rattle.packed.specs.Order.{value_of}
use Rattle.packed.specs.Writing.{WriterHolds, Appends}
use Rattle.packed.specs.declared.writer.Writer.{Writer}
use Rattle.packed.proofs.Bits.{length-bits}
use Rattle.packed.proofs.Runs.{WriterRun, run-start, run_more}
use Rattle.store.specs.Stores.{is_row, rows_of, rows_from, row_at, FormedRows}
use Rattle.store.proofs.Formed.{row_of}
use Rattle.store.proofs.RowLaws.{from-here, from_end}
use Rattle.cycles.specs.Cycles.{left_out}
use Rattle.lexleader.specs.Models.{literal_value}
use Rattle.lexleader.specs.Rows.{Pair, pairs_but, pairs_of, moved_pairs}
use Rattle.lexleader.specs.Deciding.{decides, deciding}
use Rattle.lexleader.specs.Made.{agrees, settings_after, row_settings, settings, auxiliaries, all_auxiliaries, filled_in, made_variables}
use Rattle.lexleader.proofs.Settings.{length-settings}
use Rattle.lexleader.proofs.Pairs.{deciding-same}
use Rattle.lexleader.proofs.Moved.{deciding-moved}
use Rattle.lexleader.proofs.Remaining.{deciding-pairs}
use Rattle.lexleader.proofs.Bounds.{all-auxiliaries-most}
use Rattle.valuation.specs.Tables.{by_code, bits_in, Table}
use Rattle.valuation.proofs.TableLaws.{length-in}
use Rattle.trial.proofs.OnTable.{table_same, table-answers}
use Rattle.filling.specs.Written.{agreeing}

-- ---- the auxiliaries of a row: a run of true, then one of false

module _ (v : ℕ → Bool) where
  after-false : (pairs : List Pair) → settings_after v false pairs ≡ replicate (length pairs - 1) false
  unfolding settings_after
  after-false [] = refl
  after-false (q ∷ []) = refl
  after-false (q ∷ p ∷ pairs) =
      let size : length (q ∷ p ∷ pairs) - 1 ≡ suc (length (p ∷ pairs) - 1) = omega arith in
      rw (size, after-false (p ∷ pairs))

  after-true : (pairs : List Pair) (k : ℕ) → k ≡ agreeing v pairs
      → (length pairs - 1 ≤ k → settings_after v true pairs ≡ replicate (length pairs - 1) true)
      × (k < length pairs - 1 → settings_after v true pairs ≡ replicate k true ++ replicate (length pairs - 1 - k) false)
  unfolding settings_after agreeing
  after-true [] k is = (λ h. refl, λ h. absurd (omega arith))
  after-true (q ∷ []) k is = (λ h. refl, λ h. absurd (omega arith))
  after-true (q ∷ p ∷ pairs) k is = go (after-true (p ∷ pairs) (agreeing v (p ∷ pairs)) refl) (agrees v q) is
    where
      size : length (q ∷ p ∷ pairs) - 1 ≡ suc (length (p ∷ pairs) - 1)
      size = omega arith

      go : (length (p ∷ pairs) - 1 ≤ agreeing v (p ∷ pairs) → settings_after v true (p ∷ pairs) ≡ replicate (length (p ∷ pairs) - 1) true)
          × (agreeing v (p ∷ pairs) < length (p ∷ pairs) - 1
          → settings_after v true (p ∷ pairs) ≡ replicate (agreeing v (p ∷ pairs)) true ++ replicate (length (p ∷ pairs) - 1 - agreeing v (p ∷ pairs)) false)
          → (b : Bool) → k ≡ cond b (1 + agreeing v (p ∷ pairs)) 0
          → (length (q ∷ p ∷ pairs) - 1 ≤ k → b ∷ settings_after v b (p ∷ pairs) ≡ replicate (length (q ∷ p ∷ pairs) - 1) true)
          × (k < length (q ∷ p ∷ pairs) - 1 → b ∷ settings_after v b (p ∷ pairs) ≡ replicate k true ++ replicate (length (q ∷ p ∷ pairs) - 1 - k) false)
      go rest true e =
          let one : k ≡ suc (agreeing v (p ∷ pairs)) = omega arith in
          let left : suc (length (p ∷ pairs) - 1) - suc (agreeing v (p ∷ pairs)) ≡ length (p ∷ pairs) - 1 - agreeing v (p ∷ pairs) = omega arith in
          (λ h. rw (size, rest.0 (omega arith)), λ h. rw (one, size, left, rest.1 (omega arith)))
      go rest false e =
          let all : suc (length (p ∷ pairs) - 1) - 0 ≡ suc (length (p ∷ pairs) - 1) = omega arith in
          (λ h. absurd (omega arith), λ h. rw (e, size, all, after-false (p ∷ pairs)))

module _ (row : List ℕ) (bits : List Bool) (all agreed : ℕ) (count : all ≡ auxiliaries row) (is : agreed ≡ agreeing (value_of bits) (pairs_of row)) where
  settings-alike : all ≤ agreed → row_settings row bits ≡ replicate all true
  unfolding row_settings auxiliaries
  settings-alike h = rw count ((after-true (value_of bits) (pairs_of row) agreed is).0 (omega (arith, count)))

  settings-apart : agreed < all → row_settings row bits ≡ replicate agreed true ++ replicate (all - agreed) false
  unfolding row_settings auxiliaries
  settings-apart h = rw count ((after-true (value_of bits) (pairs_of row) agreed is).1 (omega (arith, count)))

  -- no more of them than there are
  module _ (m : ℕ) (least : m ≡ min agreed all) where
    pub settings-runs : row_settings row bits ≡ replicate m true ++ replicate (all - m) false
    settings-runs =
        ⊎_elim (λ (h : agreed < all). let is : m ≡ agreed = omega (arith, least) in rw is (settings-apart h))
        (λ (h : all ≤ agreed).
        let is : m ≡ all = omega (arith, least) in
        let none : all - all ≡ 0 = omega arith in
        rw (is, none) (settings-alike h ∙ sym (append-nil (replicate all true))))
        (lt-or-le agreed all)

    -- after the run of true, the run of false is left
    pub halfway : {w v : Writer} {out after : List ℕ} → Appends w (replicate m true) out v after
        → WriterRun w out (row_settings row bits) (replicate (all - m) false) v after
    halfway {w} {out = out} begun = run_more (rw settings-runs (run-start w out _)) begun

-- ---- how far a row's x agree with their images: up to the one that decides

module _ (v out : ℕ → Bool) where
  -- no variable from i on decides
  agreeing-all : (i : ℕ) (row : List ℕ) → 1 ≤ i → deciding (literal_value v) (pairs_but out i row) ≡ 0 → agreeing v (pairs_but out i row) ≡ length (pairs_but out i row)
  unfolding pairs_but deciding decides agreeing agrees
  agreeing-all i [] low e = refl
  agreeing-all i (y ∷ row) low e = go (out i) (beq (literal_value v (2 * i)) (literal_value v y)) refl (agreeing-all (i + 1) row (omega arith)) e
    where
      go : (c b : Bool) → beq (literal_value v (2 * i)) (literal_value v y) ≡ b
          → (deciding (literal_value v) (pairs_but out (i + 1) row) ≡ 0 → agreeing v (pairs_but out (i + 1) row) ≡ length (pairs_but out (i + 1) row))
          → let pairs = cond c (pairs_but out (i + 1) row) (record { x = 2 * i; y = y } ∷ pairs_but out (i + 1) row) in
          deciding (literal_value v) pairs ≡ 0 → agreeing v pairs ≡ length pairs
      go true b q later e = later e
      go false true q later e = rw q (omega (arith, later (rw q at e)))
      go false false q later e = let none : 2 * i / 2 ≡ 0 = rw q at e in absurd (omega arith)

  -- variable d decides, i or a later one
  agreeing-before : (i : ℕ) (row : List ℕ) (d : ℕ) → 1 ≤ d → deciding (literal_value v) (pairs_but out i row) ≡ d
      → (i ≤ d) × (agreeing v (pairs_but out i row) ≡ length (pairs_but out i (take (d - i) row)))
  unfolding pairs_but deciding decides agreeing agrees
  agreeing-before i [] d low e = absurd (omega arith)
  agreeing-before i (y ∷ row) d low e = go (out i) refl (beq (literal_value v (2 * i)) (literal_value v y)) refl (agreeing-before (i + 1) row d low) e
    where
      go : (c : Bool) → out i ≡ c → (b : Bool) → beq (literal_value v (2 * i)) (literal_value v y) ≡ b
          → (deciding (literal_value v) (pairs_but out (i + 1) row) ≡ d
          → (i + 1 ≤ d) × (agreeing v (pairs_but out (i + 1) row) ≡ length (pairs_but out (i + 1) (take (d - (i + 1)) row))))
          → let pairs = cond c (pairs_but out (i + 1) row) (record { x = 2 * i; y = y } ∷ pairs_but out (i + 1) row) in
          deciding (literal_value v) pairs ≡ d → (i ≤ d) × (agreeing v pairs ≡ length (pairs_but out i (take (d - i) (y ∷ row))))
      go true is b q later e =
          let rest = later e in
          let next : d - i ≡ suc (d - (i + 1)) = omega (arith, rest.0) in
          (omega (arith, rest.0), rw (next, is) rest.1)
      go false is true q later e =
          let rest = later (rw q at e) in
          let next : d - i ≡ suc (d - (i + 1)) = omega (arith, rest.0) in
          (omega (arith, rest.0), rw (next, is, q) (omega (arith, rest.1)))
      go false is false q later e =
          let here : 2 * i / 2 ≡ d = rw q at e in
          let none : d - i ≡ 0 = omega arith in
          (omega arith, rw (none, q))

module _ (v : ℕ → Bool) (row : List ℕ) (d : ℕ) (decided : deciding (literal_value v) (pairs_of row) ≡ d) where
  pub agreeing-none : d ≡ 0 → agreeing v (pairs_of row) ≡ length (pairs_of row)
  unfolding pairs_of
  agreeing-none e = agreeing-all v (left_out row) 1 row (omega arith) (decided ∙ e)

  pub agreeing-to : 1 ≤ d → agreeing v (pairs_of row) ≡ length (pairs_but (left_out row) 1 (take (d - 1) row))
  unfolding pairs_of
  agreeing-to h = (agreeing-before v (left_out row) 1 row d h decided).1

-- What a trial tells of a table is the variable that decides for its assignment, the first at which it and what the row makes of it differ: so it is the one
-- that decides among the x.
module _ (row : List ℕ) (values : List Bool) {d : ℕ} (good : is_row (length row) row ≡ true) (table : Table (length row) values)
    (told : d ≡ deciding (by_code values) (moved_pairs row)) where
  pub told-decides : deciding (literal_value (value_of (bits_in (length row) values))) (pairs_of row) ≡ d
  told-decides =
      let bits = bits_in (length row) values in
      let size = length-in (length row) values in
      deciding-pairs (length row) row (row_of (length row) row good) bits size
      ∙ sym (deciding-moved row bits size)
      ∙ sym (told ∙ deciding-same _ _ _ (table_same _ _ _ good table))

  pub told-within : d ≤ length row
  told-within = omega (arith, told, (table-answers _ _ _ good table).within)

-- ---- the auxiliaries of all rows

module _ (n rows : ℕ) (images : List ℕ) (a : List Bool) (r : ℕ) where
  pub over-end : rows ≤ r → settings (rows_from n rows images r) a ≡ []
  unfolding settings
  over-end h = rw (from_end n rows images r h)

  pub over-more : r < rows → settings (rows_from n rows images r) a ≡ row_settings (row_at n r images) a ++ settings (rows_from n rows images (r + 1)) a
  unfolding settings
  over-more h = rw (from-here n rows images r h)

-- ---- the whole

module _ (n : ℕ) (rows : List (List ℕ)) (words : List ℕ) where
  pub length-filled : length (filled_in rows (bits_of n words)) ≡ made_variables n rows
  unfolding filled_in made_variables
  length-filled =
      omega (
        arith,
        length-append (bits_of n words) (settings rows (bits_of n words)),
        length-bits n words,
        length-settings rows (bits_of n words),
      )

  pub filled-holds : (values : List Bool) {w v : Writer} {out between after : List ℕ} → bits_in n values ≡ bits_of n words
      → WriterHolds (bits_in n values) w out between → Appends w (settings rows (bits_in n values)) between v after
      → WriterHolds (filled_in rows (bits_of n words)) v out after
  unfolding filled_in
  filled-holds values {out = out} bits h f = (rw bits at f) (bits_of n words) out (rw bits at h)

-- there is room for the assignment itself, and then for the auxiliaries
module _ {n rows : ℕ} {images : List ℕ} (f : FormedRows n rows images) (k : ℕ) (room : word_count (made_variables n (rows_of n rows images)) ≤ k) where
  pub plain-room : word_count n ≤ k
  unfolding word_count made_variables
  plain-room = omega arith

  pub made-room : n + all_auxiliaries (rows_of n rows images) ≤ 64 * k
  unfolding word_count made_variables
  made-room = omega arith

  pub made-bounded : n + all_auxiliaries (rows_of n rows images) ≤ 64 * max_words
  made-bounded = omega (arith, all-auxiliaries-most n rows images f.small, f.rows_fit, f.small)
