-- What is known of a well formed store, for the functions that rely on it: every demand as a fact about places. Assumes nothing.
use mathlib.Core.Path.{◌≡◌, refl, sym, ap, ◌∙◌}
use mathlib.Core.Bool.{true, ◌&&◌}
use mathlib.Core.List.{List, [], ◌∷◌}
use Prim.Native.Nat.{ℕ, zero, suc, ◌+◌, ◌-◌, ◌*◌, ◌≤◌, ◌<◌}
use native.Mathlib.Nat.{not-suc-le-zero, le_of_suc-le-suc}
use native.Mathlib.Omega.{arith}
use borrow.Author.Tests.{leb-true, eqb-true, eq-eqb}
use lib.ListN.{length, get_or, take, length-map}
use lib.Seq.{get_or-take, length-take-le}
use lib.Dec.{eqb, leb}
use Rattle.lists.specs.Tests.{all_of, distinct}
use Rattle.lists.proofs.Cases.{and_l, and_r}
use Rattle.lists.proofs.Members.{all-at, all_in}
use Rattle.lists.proofs.Distinct.{distinct-inj, inj-distinct}
use Rattle.store.specs.Literals.{variable_of, is_literal}
use Rattle.store.specs.Stores.{Store, max_variables, max_clauses, max_literals, max_rows, rising, literal_count, row_at, held_rows, is_row, FormedRow, FormedRows, FormedClauses, is_formed}
use Rattle.store.proofs.FormLaws.{variables, variable-at, literal-low, literal-high, literal-within, count_none, count-last}
use Rattle.store.proofs.RowLaws.{rows_at, row-size}
use Rattle.store.proofs.Cuts.{end_is}
use Rattle.store.proofs.Demands.{used, rest_of, rows-of}

-- ---- a row

pub record Row (n : ℕ) (row : List ℕ) : Type 0 where
  pub size : length row ≡ n
  pub low : (i : ℕ) → i < n → 1 ≤ variable_of (get_or row i 0)
  pub high : (i : ℕ) → i < n → variable_of (get_or row i 0) ≤ n
  pub one_place : (i j : ℕ) → i < n → j < n → variable_of (get_or row i 0) ≡ variable_of (get_or row j 0) → i ≡ j

pub row_of : (n : ℕ) (row : List ℕ) → is_row n row ≡ true → Row n row
unfolding is_row
row_of n row e =
    let first = and_l (eqb (length row) n && all_of (is_literal n) row) (distinct (variables row)) e in
    let size : length row ≡ n = eqb-true (length row) n (and_l (eqb (length row) n) (all_of (is_literal n) row) first) in
    let literal : (i : ℕ) → i < n → is_literal n (get_or row i 0) ≡ true =
    λ i h. all-at (is_literal n) row 0 (and_r (eqb (length row) n) (all_of (is_literal n) row) first) i (omega arith) in
    let different = and_r (eqb (length row) n && all_of (is_literal n) row) (distinct (variables row)) e in
    let many : length (variables row) ≡ n = length-map row variable_of ∙ size in
    record {
      size = size;
      low = λ i h. literal-low n (get_or row i 0) (literal i h);
      high = λ i h. literal-high n (get_or row i 0) (literal i h);
      one_place = λ i j h k q. distinct-inj (variables row) different i j (omega arith) (omega arith) (variable-at row i ∙ q ∙ sym (variable-at row j));
    }

-- and these facts make a row
pub is-row : (n : ℕ) (row : List ℕ) → Row n row → is_row n row ≡ true
unfolding is_row
is-row n row r =
    let literal : (i : ℕ) → i < length row → is_literal n (get_or row i 0) ≡ true =
    λ i h. let in_row : i < n = omega (arith, r.size) in literal-within n (get_or row i 0) (r.low i in_row) (r.high i in_row) in
    let many : length (variables row) ≡ n = length-map row variable_of ∙ r.size in
    let different = inj-distinct (variables row) (λ i j h k q. r.one_place i j (omega arith) (omega arith) (sym (variable-at row i) ∙ q ∙ variable-at row j)) in
    rw (eq-eqb (length row) n r.size, all_in (is_literal n) row 0 literal, different)

-- ---- the ends

rising-low : (from : ℕ) (l : List ℕ) → rising from l ≡ true → (i : ℕ) → i < length l → from ≤ get_or l i 0
unfolding rising
rising-low from [] e i h = absurd (not-suc-le-zero h)
rising-low from (x ∷ l) e zero h = leb-true from x (and_l (leb from x) (rising x l) e)
rising-low from (x ∷ l) e (suc i) h =
    omega (arith, leb-true from x (and_l (leb from x) (rising x l) e), rising-low x l (and_r (leb from x) (rising x l) e) i (le_of_suc-le-suc h))

rising-order : (from : ℕ) (l : List ℕ) → rising from l ≡ true → (i j : ℕ) → i ≤ j → j < length l → get_or l i 0 ≤ get_or l j 0
unfolding rising
rising-order from [] e i j h k = absurd (not-suc-le-zero k)
rising-order from (x ∷ l) e zero zero h k = omega arith
rising-order from (x ∷ l) e zero (suc j) h k = rising-low x l (and_r (leb from x) (rising x l) e) j (le_of_suc-le-suc k)
rising-order from (x ∷ l) e (suc i) zero h k = absurd (not-suc-le-zero h)
rising-order from (x ∷ l) e (suc i) (suc j) h k =
    rising-order x l (and_r (leb from x) (rising x l) e) i j (le_of_suc-le-suc h) (le_of_suc-le-suc k)

-- ---- the store

pub record Formed (s : Store) : Type 0 where
  pub variables-fit : s.counts.variables ≤ max_variables
  pub clauses-fit : s.counts.clauses ≤ max_clauses
  pub rows_fit : s.counts.rows ≤ max_rows
  pub ends-long : s.counts.clauses ≤ length s.ends
  pub literals-fit : used s ≤ max_literals
  pub literals-long : used s ≤ length s.literals
  pub images-long : s.counts.rows * s.counts.variables ≤ length s.images
  pub ends-rise : (i j : ℕ) → i ≤ j → j < s.counts.clauses → get_or s.ends i 0 ≤ get_or s.ends j 0
  pub end-within : (j : ℕ) → j < s.counts.clauses → get_or s.ends j 0 ≤ used s
  pub literal-low : (i : ℕ) → i < used s → 1 ≤ variable_of (get_or s.literals i 0)
  pub literal-high : (i : ℕ) → i < used s → variable_of (get_or s.literals i 0) ≤ s.counts.variables
  pub row : (r : ℕ) → r < s.counts.rows → Row s.counts.variables (row_at s.counts.variables r s.images)

pub formed : (s : Store) → is_formed s ≡ true → Formed s
unfolding held_rows
formed s e =
    let n : ℕ = s.counts.variables in
    let m : ℕ = s.counts.clauses in
    let r = rest_of s e in
    let first : length (take m s.ends) ≡ m = length-take-le m s.ends r.ends-long in
    let order : (i j : ℕ) → i ≤ j → j < m → get_or s.ends i 0 ≤ get_or s.ends j 0 =
    λ i j h k. rw (get_or-take m s.ends j 0 k, get_or-take m s.ends i 0 (omega arith)) at (rising-order 0 (take m s.ends) r.ends-rise i j h (omega arith)) in
    let literal : (i : ℕ) → i < used s → is_literal n (get_or s.literals i 0) ≡ true =
    λ i h. rw (get_or-take (used s) s.literals i 0 h) at (all-at (is_literal n) (take (used s) s.literals) 0 r.literals-good i (omega (arith, length-take-le (used s) s.literals r.literals-long))) in
    record {
      variables-fit = r.variables-fit;
      clauses-fit = r.clauses-fit;
      rows_fit = r.rows_fit;
      ends-long = r.ends-long;
      literals-fit = r.literals-fit;
      literals-long = r.literals-long;
      images-long = r.images-long;
      ends-rise = order;
      end-within = λ j h. omega (arith, order j (m - 1) (omega arith) (omega arith), count-last m s.ends (omega arith));
      literal-low = λ i h. literal-low n (get_or s.literals i 0) (literal i h);
      literal-high = λ i h. literal-high n (get_or s.literals i 0) (literal i h);
      row = λ k h. row_of n (row_at n k s.images) (rows_at n s.counts.rows s.images (rows-of s e) k h);
    }

-- ---- its rows and its clauses alone

pub formed-rows : (s : Store) → is_formed s ≡ true → FormedRows s.counts.variables s.counts.rows s.images
unfolding held_rows
formed-rows s e = let r = rest_of s e in record { small = r.variables-fit; rows_fit = r.rows_fit; fits = r.images-long; good = rows-of s e }

-- and each of its rows
pub formed-row : (n k : ℕ) (images : List ℕ) → FormedRows n k images → (r : ℕ) → r < k → FormedRow (row_at n r images)
formed-row n k images rows r h =
    let long : length (row_at n r images) ≡ n = row-size n k images rows.fits r h in
    record { small = omega (arith, rows.small, long); good = rw long (rows_at n k images rows.good r h) }

pub formed-clauses : (s : Store) → Formed s → FormedClauses s.counts.clauses s.literals s.ends
formed-clauses s f = record {
  known = f.ends-long;
  rise = rise;
  within = λ c h. omega (arith, end_is c s.ends, f.end-within c h, f.literals-long);
  literals-fit = λ c h. omega (arith, end_is c s.ends, f.end-within c h, f.literals-fit);
}
  where
    rise : (c : ℕ) → c < s.counts.clauses → literal_count c s.ends ≤ literal_count (c + 1) s.ends
    rise zero h = omega (arith, count_none 0 s.ends refl)
    rise (suc c) h =
        let last : suc c - 1 ≡ c = omega arith in
        omega (arith, end_is (suc c) s.ends, count-last (suc c) s.ends (λ e. omega arith), ap (λ (k : ℕ). get_or s.ends k 0) last, f.ends-rise c (suc c) (omega arith) h)
