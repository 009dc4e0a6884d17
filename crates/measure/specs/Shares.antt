-- What the code adds up: the figures of what rows add, and the bytes of a row's clauses by its pairs and by its auxiliaries. Assumes nothing.
use Rattle.std.specs.Prelude.{◌≡◌, ℕ, zero, suc, ◌+◌, ◌-◌, ◌*◌, ◌≤◌, ◌<◌, cond, List, [], ◌∷◌, length, eqb, Option, Some, None, IfSome}
use Rattle.lists.specs.Sums.{sum_of}
use Rattle.store.specs.Literals.{opposite_of}
use Rattle.store.specs.Stores.{max_variables}
use Rattle.lexleader.specs.Rows.{Pair, pairs_of}
use Rattle.lexleader.specs.Made.{row_clauses, auxiliaries, rows_clauses, made_variables}
use Rattle.lexleader.specs.Clause.{pair_at}
use Rattle.render.specs.Text.{decimal, literal_text}
use Rattle.emit.specs.Emit.{lines_of}
use Rattle.measure.specs.declared.Figures.{Figures}
use Rattle.measure.specs.declared.Pairs.{Pairs}

-- some clauses, without a header, and the last number in use after them
abbrev pub figures_for : ℕ → List (List ℕ) → Figures
figures_for variables clauses = record { variables = variables; clauses = length clauses; literals = sum_of length clauses; bytes = length (lines_of clauses) }

-- what a row adds where `last` is the last number in use, and what rows over 1..n add
abbrev pub row_figures : ℕ → List ℕ → Figures
row_figures last row = figures_for (last + auxiliaries row) (row_clauses (last + 1) row)

abbrev pub added_figures : ℕ → List (List ℕ) → Figures
added_figures n rows = figures_for (made_variables n rows) (rows_clauses (n + 1) rows)

-- literals by auxiliaries and clauses: 19 in the clauses of each auxiliary, but 17 in those of the first; a row without has one clause of two, or none
abbrev pub literals_for : ℕ → ℕ → ℕ
literals_for count clauses = cond (eqb count 0) (2 * clauses) (19 * count - 2)

-- a literal and the space after it; those of some clauses
unfoldable pub word_bytes : ℕ → ℕ
word_bytes code = length (literal_text code) + 1

abbrev pub words_of : List (List ℕ) → ℕ
words_of clauses = sum_of (sum_of word_bytes) clauses

-- ---- by the pairs

-- `-x y`: the clause of a row with one x, r1 for the first pair, the end of r6 for each other one
unfoldable pub order_bytes : Pair → ℕ
order_bytes q = word_bytes (opposite_of q.x) + word_bytes q.y

-- `-x y`, `x -y`, `x y`, `-x -y`: the ends of r2 to r5, for each pair but the last
unfoldable pub agree_bytes : Pair → ℕ
agree_bytes q = 2 * (word_bytes q.x + word_bytes (opposite_of q.x) + word_bytes q.y + word_bytes (opposite_of q.y))

unfoldable pub pair_bytes : Pair → ℕ
pair_bytes q = order_bytes q + agree_bytes q

-- `-x y` by the digits of both variables, the sign of y apart
abbrev pub plain_bytes : ℕ → ℕ → ℕ
plain_bytes x y = length (decimal x) + length (decimal y) + 3

-- what a function gives for the last pair, 0 where there is none
unfoldable pub of_last : (Pair → ℕ) → List Pair → ℕ
of_last f [] = 0
of_last f (q ∷ []) = f q
of_last f (q ∷ p ∷ pairs) = of_last f (p ∷ pairs)

-- the same by its place: what the function gives for the variable at a place of a row and its image
abbrev pub of_place : (Pair → ℕ) → List ℕ → Option ℕ → ℕ
of_place f row None = 0
of_place f row (Some i) = f (pair_at row i)

-- what the pairs of a row have together
pub record PairsSummed (row : List ℕ) (pairs : Pairs) : Type 0 where
  pub bytes : pairs.bytes ≡ sum_of pair_bytes (pairs_of row)
  pub few : pairs.bytes ≤ 46 * max_variables
  pub inside : IfSome pairs.last (λ i. i < length row)
  pub last : (f : Pair → ℕ) → of_last f (pairs_of row) ≡ of_place f row pairs.last

-- ---- by the auxiliaries

-- e in the clauses r2 to r6 of its own: `-e` three times, `e` twice
unfoldable pub own_bytes : ℕ → ℕ
own_bytes e = 3 * word_bytes (opposite_of (2 * e)) + 2 * word_bytes (2 * e)

-- e in r1, and the one before it, d, in r1, r4 and r5, where there is one: `-e d`, `-d` twice
unfoldable pub link_bytes : ℕ → ℕ → ℕ
link_bytes e d = word_bytes (opposite_of (2 * e)) + word_bytes (2 * d) + 2 * word_bytes (opposite_of (2 * d))

-- those of the `count` auxiliaries after d
unfoldable pub later_bytes : ℕ → ℕ → ℕ
later_bytes d zero = 0
later_bytes d (suc count) = link_bytes (d + 1) d + own_bytes (d + 1) + later_bytes (d + 1) count

-- those of the `count` auxiliaries of a row, from e on
unfoldable pub auxiliary_bytes : ℕ → ℕ → ℕ
auxiliary_bytes e zero = 0
auxiliary_bytes e (suc count) = own_bytes e + later_bytes e count
