-- A loop over the rows: what all of them add is what was added up and what row r and those after it add. Assumes nothing.
use mathlib.Core.Path.{◌≡◌, sym, ap, ◌∙◌}
use mathlib.Core.Bool.{true}
use mathlib.Core.List.{List, ◌++◌}
use Prim.Native.Nat.{ℕ, ◌+◌, ◌-◌, ◌*◌, ◌^◌, ◌≤◌, ◌<◌}
use native.Mathlib.Omega.{arith}
use borrow.Author.Tests.{leb-true}
use lib.ListN.{length, length-append}
use Rattle.lists.specs.Tests.{all_of}
use Rattle.lists.specs.Sums.{sum_of}
use Rattle.lists.proofs.Sums.{sum-append, sum-most}
use Rattle.store.specs.Stores.{max_variables, max_rows, rows_of, row_at, rows_from, FormedRows}
use Rattle.store.proofs.RowLaws.{from_first, from-here, from_end, row-size}
use Rattle.lexleader.specs.Made.{row_clauses, auxiliaries, rows_clauses, all_auxiliaries, made_variables}
use Rattle.lexleader.specs.Bounds.{max_before}
use Rattle.lexleader.proofs.Bounds.{auxiliaries-most, all-clauses-most, is_short, rows_short}
use Rattle.render.proofs.LineLaws.{line-short}
use Rattle.emit.specs.Emit.{lines_of}
use Rattle.lexleader.proofs.Numbers.{row-most}
use Rattle.lexleader.proofs.Walk.{pairs-length}
use Rattle.measure.specs.declared.Figures.{Figures}
use Rattle.measure.specs.declared.Pairs.{Pairs}
use Rattle.measure.specs.Shares.{word_bytes, words_of, literals_for, row_figures, added_figures, agree_bytes, auxiliary_bytes, of_place, PairsSummed}
use Rattle.measure.proofs.Digits.{auxiliary-most}
use Rattle.measure.proofs.Words.{line-words, lines-words}
use Rattle.measure.proofs.Shares.{row-literals, row_words}

pub lines-append : (a b : List (List ℕ)) → length (lines_of (a ++ b)) ≡ length (lines_of a) + length (lines_of b)
lines-append a b = omega (arith, lines-words (a ++ b), lines-words a, lines-words b, sum-append (sum_of word_bytes) a b, length-append a b)

-- a row by its counts and its words
pub row-figures : (last : ℕ) (row : List ℕ) {a k l w : ℕ} → a ≡ auxiliaries row → k ≡ length (row_clauses (last + 1) row) → l ≡ literals_for a k → w ≡ words_of (row_clauses (last + 1) row)
    → record { variables = last + a; clauses = k; literals = l; bytes = w + 2 * k } ≡ row_figures last row
row-figures last row {a} {k} {l} {w} is-a is-k is-l is-w =
    let literals : l ≡ sum_of length (row_clauses (last + 1) row) = is-l ∙ rw (is-a, is-k) (row-literals (last + 1) row) in
    let bytes : w + 2 * k ≡ length (lines_of (row_clauses (last + 1) row)) = omega (arith, lines-words (row_clauses (last + 1) row)) in
    rw (bytes, literals, is-k, is-a)

-- What is counted of a row: its auxiliaries and its clauses, the bytes of its pairs and of its auxiliaries, and what the last pair spares.
module _ (row : List ℕ) {a k : ℕ} (small : length row ≤ max_variables) (added : (a ≡ auxiliaries row) × ((e : ℕ) → k ≡ length (row_clauses e row))) where
  pub counts-small : (a ≤ max_variables) × (k ≤ 6 * max_variables)
  counts-small = (
    omega (arith, added.0, auxiliaries-most row),
    omega (arith, added.1 0, row-most 0 row, pairs-length row),
  )

  module _ (last : ℕ) {pairs : Pairs} (p : PairsSummed row pairs) {b : ℕ} (is : b ≡ auxiliary_bytes (last + 1) a) where
    pub words-small : pairs.bytes + b ≤ 241 * max_variables
    words-small = omega (arith, p.few, is, auxiliary-most (last + 1) a, counts-small)

    pub words-told : {spare : ℕ} → spare ≡ of_place agree_bytes row pairs.last → words_of (row_clauses (last + 1) row) + spare ≡ pairs.bytes + b
    words-told e =
        omega (arith, row_words (last + 1) row, e, p.last agree_bytes, p.bytes, is, ap (auxiliary_bytes (last + 1)) added.0)

module _ (n rows : ℕ) (images : List ℕ) where
  -- what all rows add, and what those from row r on do, where `last` is the last number in use
  abbrev all : List (List ℕ)
  all = rows_clauses (n + 1) (rows_of n rows images)

  abbrev left : ℕ → ℕ → List (List ℕ)
  left last r = rows_clauses (last + 1) (rows_from n rows images r)

  pub record FiguresSummed (variables clauses literals bytes r : ℕ) : Type 0 where
    pub upto : r ≤ rows
    pub low : variables ≤ max_before r
    pub all-variables : made_variables n (rows_of n rows images) ≡ variables + all_auxiliaries (rows_from n rows images r)
    pub all-clauses : length all ≡ clauses + length (left variables r)
    pub all-literals : sum_of length all ≡ literals + sum_of length (left variables r)
    pub all-bytes : length (lines_of all) ≡ bytes + length (lines_of (left variables r))

  -- none of this is large
  pub added-fit : FormedRows n rows images → (length all < 2 ^ 32) × (sum_of length all < 2 ^ 32) × (length (lines_of all) < 2 ^ 32)
  added-fit f = (omega (arith, few), omega (arith, few, few-literals), omega (arith, few, few_words, lines-words all))
    where
      few : length all ≤ max_rows * (6 * (max_variables - 1))
      few = omega (arith, all-clauses-most (n + 1) n rows images f.small, f.rows_fit)

      short : all_of is_short all ≡ true
      short = rows_short (n + 1) (rows_of n rows images)

      few-literals : sum_of length all ≤ 4 * length all
      few-literals = sum-most length 4 is_short (λ clause e. leb-true (length clause) 4 e) all short

      few_words : words_of all ≤ 88 * length all
      few_words = sum-most (sum_of word_bytes) 88 is_short (λ clause e. omega (arith, line-words clause, line-short clause, leb-true (length clause) 4 e)) all short

  pub figures-none : n ≤ max_variables → FiguresSummed n 0 0 0 0
  unfolding made_variables
  figures-none small = record {
    upto = omega arith;
    low = omega arith;
    all-variables = ap (λ (l : List (List ℕ)). n + all_auxiliaries l) (sym (from_first n rows images));
    all-clauses = omega (arith, ap length first);
    all-literals = omega (arith, ap (sum_of length) first);
    all-bytes = omega (arith, ap (λ (l : List (List ℕ)). length (lines_of l)) first);
  }
    where
      first : all ≡ left n 0
      first = ap (rows_clauses (n + 1)) (sym (from_first n rows images))

  module _ {variables clauses literals bytes r : ℕ} (s : FiguresSummed variables clauses literals bytes r) where
    -- with what row r adds
    module _ (f : FormedRows n rows images) (h : r < rows) {part : List ℕ} (there : part ≡ row_at n r images) {more : Figures} (told : more ≡ row_figures variables part) where
      abbrev row : List ℕ
      row = row_at n r images

      is : more ≡ row_figures variables row
      is = told ∙ ap (row_figures variables) there

      apart : left variables r ≡ row_clauses (variables + 1) row ++ left more.variables (r + 1)
      unfolding rows_clauses
      apart =
          let on : variables + 1 + auxiliaries row ≡ more.variables + 1 = omega (arith, ap (λ (k : Figures). k.variables) is) in
          ap (rows_clauses (variables + 1)) (from-here n rows images r h) ∙ ap (λ (e : ℕ). row_clauses (variables + 1) row ++ rows_clauses e (rows_from n rows images (r + 1))) on

      pub figures-more : FiguresSummed more.variables (clauses + more.clauses) (literals + more.literals) (bytes + more.bytes) (r + 1)
      unfolding all_auxiliaries
      figures-more =
          let added = row_clauses (variables + 1) row in
          let rest = left more.variables (r + 1) in
          record {
            upto = omega arith;
            low = omega (arith, s.low, f.small, auxiliaries-most row, row-size n rows images f.fits r h, ap (λ (k : Figures). k.variables) is);
            all-variables =
                omega (arith, s.all-variables, ap all_auxiliaries (from-here n rows images r h), ap (λ (k : Figures). k.variables) is);
            all-clauses = omega (arith, s.all-clauses, ap length apart, length-append added rest, ap (λ (k : Figures). k.clauses) is);
            all-literals = omega (arith, s.all-literals, ap (sum_of length) apart, sum-append length added rest, ap (λ (k : Figures). k.literals) is);
            all-bytes =
                omega (arith, s.all-bytes, ap (λ (l : List (List ℕ)). length (lines_of l)) apart, lines-append added rest, ap (λ (k : Figures). k.bytes) is);
          }

      -- and none of the sums is larger than that of all
      pub more-fit : (clauses + more.clauses < 2 ^ 32) × (literals + more.literals < 2 ^ 32) × (bytes + more.bytes < 2 ^ 32)
      more-fit =
          let all-fit = added-fit f in
          (omega (arith, figures-more.all-clauses, all-fit.0), omega (arith, figures-more.all-literals, all-fit.1), omega (arith, figures-more.all-bytes, all-fit.2))

    pub figures-all : rows ≤ r → record { variables = variables; clauses = clauses; literals = literals; bytes = bytes } ≡ added_figures n (rows_of n rows images)
    unfolding all_auxiliaries rows_clauses sum_of lines_of
    figures-all h =
        let none = from_end n rows images r h in
        let e : variables ≡ made_variables n (rows_of n rows images) = omega (arith, s.all-variables, ap all_auxiliaries none) in
        let c : clauses ≡ length all = omega (arith, s.all-clauses, ap (λ (l : List (List ℕ)). length (rows_clauses (variables + 1) l)) none) in
        let l : literals ≡ sum_of length all = omega (arith, s.all-literals, ap (λ (l : List (List ℕ)). sum_of length (rows_clauses (variables + 1) l)) none) in
        let b : bytes ≡ length (lines_of all) = omega (arith, s.all-bytes, ap (λ (l : List (List ℕ)). length (lines_of (rows_clauses (variables + 1) l))) none) in
        rw (e, c, l, b)
