-- Document 02, CR 6, sentence by sentence: what rows that turn signs are, what they do, and what they add. `turns-signs` (proofs/Signs.antt) says that it holds. Which
-- values an offer may have is `Value` (Reasons.antt) and, held as a row, `Demand2`; "the kept models, unique filling in and descent .. for signed rows, once" are
-- `Demand3`, for whatever rows are held. Assumes nothing.
use Rattle.std.specs.Prelude.{◌≡◌, Bool, true, not, ◌↔◌, ℕ, ◌+◌, ◌-◌, ◌*◌, ◌≤◌, length, get_or}
use Rattle.std.specs.Bool.{beq}
use mathlib.Core.List.{List, [], ◌∷◌, Memᴰ}
use Rattle.packed.specs.Order.{value_of}
use Rattle.store.specs.Literals.{variable_of, is_negative, opposite_of}
use Rattle.store.specs.Stores.{Store, held_rows, is_row, is_formed}
use Rattle.symmetry.specs.Symmetry.{image_of}
use Rattle.lexleader.specs.Rows.{Pair, moved, pairs_of}
use Rattle.lexleader.specs.Made.{row_clauses, auxiliaries}
use Rattle.lexleader.specs.Sizes.{sum_over, auxiliaries_for, clauses_for}
use Rattle.lexleader.specs.Store.{variables_of, clauses_of}

-- p(i), a literal: its size, and whether it is negative
abbrev pub image_at : List ℕ → ℕ → ℕ
image_at row i = get_or row (i - 1) 0

abbrev pub size_at : List ℕ → ℕ → ℕ
size_at row i = variable_of (image_at row i)

abbrev pub turns_at : List ℕ → ℕ → Bool
turns_at row i = is_negative (image_at row i)

-- n values, "a size that is 0, over n or repeated" not among them
pub record SignedRow (n : ℕ) (row : List ℕ) : Type 0 where
  pub many : length row ≡ n
  pub low : (i : ℕ) → 1 ≤ i → i ≤ n → 1 ≤ size_at row i
  pub high : (i : ℕ) → 1 ≤ i → i ≤ n → size_at row i ≤ n
  pub differ : (i j : ℕ) → 1 ≤ i → i ≤ n → 1 ≤ j → j ≤ n → size_at row i ≡ size_at row j → i ≡ j

pub record TurnsSigns : Type 0 where
  -- "Rows hold signed values, and a row with a size that is 0, over n or repeated is badly formed."
  pub rows : (n : ℕ) (row : List ℕ) → (is_row n row ≡ true) ↔ SignedRow n row
  -- "The image of a literal takes its sign from both": negative where exactly one of the literal and the value is
  pub size : (row : List ℕ) (code : ℕ) → variable_of (image_of row code) ≡ size_at row (variable_of code)
  pub sign : (row : List ℕ) (code : ℕ) → is_negative (image_of row code) ≡ not (beq (is_negative code) (turns_at row (variable_of code)))
  -- "and A moved takes the negated value"
  pub plain : (row : List ℕ) (a : List Bool) (i j : ℕ) → 1 ≤ i → i ≤ length row → image_at row i ≡ 2 * j → value_of (moved row a) i ≡ value_of a j
  pub negated : (row : List ℕ) (a : List Bool) (i j : ℕ) → 1 ≤ i → i ≤ length row → image_at row i ≡ 2 * j + 1 → value_of (moved row a) i ≡ not (value_of a j)
  -- "a variable sent to its own negation counts as moved", and is one of the row's x: alone in its cycle, it turns the sign once
  pub own : (row : List ℕ) (i : ℕ) → 1 ≤ i → i ≤ length row → image_at row i ≡ 2 * i + 1 → Memᴰ (record { x = 2 * i; y = 2 * i + 1 }) (pairs_of row)
  -- "A row with k = 1 adds the single clause -x1 y1 and no auxiliary"
  pub single : (e : ℕ) (row : List ℕ) (q : Pair) → pairs_of row ≡ q ∷ [] → (row_clauses e row ≡ (opposite_of q.x ∷ q.y ∷ []) ∷ []) × (auxiliaries row ≡ 0)
  -- "and M counts it": N = n + the sum of (k-1), M = m + the sum of 6(k-1), or 1 where k = 1, for every well-formed store
  pub variables : (s : Store) → is_formed s ≡ true → variables_of s ≡ s.counts.variables + sum_over auxiliaries_for (held_rows s)
  pub clauses : (s : Store) → is_formed s ≡ true → clauses_of s ≡ s.counts.clauses + sum_over clauses_for (held_rows s)
