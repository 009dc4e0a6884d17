-- The test of a store's form: one law for each way out of the functions that make it. Assumes nothing.
use mathlib.Core.Path.{◌≡◌, refl, sym, ◌∙◌}
use mathlib.Core.Bool.{Bool, true, false, cond, ◌&&◌, ◌||◌, and_assoc, and-false, and-true, or-true, or-false}
use mathlib.Core.List.{List, [], ◌∷◌, map}
use Prim.Native.Nat.{ℕ, ◌+◌, ◌-◌, ◌*◌, ◌%◌, ◌≤◌, ◌<◌}
use native.Mathlib.Decide.{ℕ_discrete}
use native.Mathlib.Omega.{arith}
use borrow.Author.Tests.{eq-eqb, ne_eqb, eqb-true, eqb-false, lt-leb, le-leb, leb-true, lt-ltb, ltb-true}
use lib.ListN.{length, get_or, take, drop, set, drop_of_length-le, length-map, length-set, get_or-map, replicate, length-replicate, get_or-replicate}
use lib.Seq.{get_or-set_same, get_or-set_other, take_all}
use lib.Dec.{eqb, leb, ltb}
use Rattle.lists.specs.Tests.{all_of, any_of, has, distinct}
use Rattle.lists.proofs.Cases.{and_l, and_r, and_both, bool-ext}
use Rattle.lists.proofs.Members.{all_in, all-not}
use Rattle.lists.proofs.Steps.{drop-step}
use Rattle.lists.proofs.Distinct.{has_more, distinct_more, distinct-twice}
use Rattle.store.specs.Literals.{variable_of, is_negative, opposite_of, is_literal}
use Rattle.store.specs.Stores.{max_variables, rising, literal_count, is_row}

-- ---- codes

-- the opposite of a literal has its variable and the other sign
pub opposite-is : (code : ℕ) → (variable_of (opposite_of code) ≡ variable_of code) × ((opposite_of code + code) % 2 ≡ 1)
opposite-is code = go (is_negative code) refl
  where
    go : (b : Bool) → is_negative code ≡ b → let opposite = cond b (code - 1) (code + 1) in
        (variable_of opposite ≡ variable_of code) × ((opposite + code) % 2 ≡ 1)
    go true e = let odd = eqb-true (code % 2) 1 e in (omega arith, omega arith)
    go false e = let even = eqb-false (code % 2) 1 e in (omega arith, omega arith)

module _ (n code : ℕ) where
  pub literal-zero : variable_of code ≡ 0 → is_literal n code ≡ false
  unfolding is_literal
  literal-zero h = rw (lt-leb 1 (variable_of code) (omega arith))

  pub literal-low : is_literal n code ≡ true → 1 ≤ variable_of code
  unfolding is_literal
  literal-low e = leb-true 1 (variable_of code) (and_l (leb 1 (variable_of code)) (leb (variable_of code) n) e)

  pub literal-high : is_literal n code ≡ true → variable_of code ≤ n
  unfolding is_literal
  literal-high e = leb-true (variable_of code) n (and_r (leb 1 (variable_of code)) (leb (variable_of code) n) e)

  pub literal-within : 1 ≤ variable_of code → variable_of code ≤ n → is_literal n code ≡ true
  unfolding is_literal
  literal-within low high = and_both (le-leb 1 (variable_of code) low) (le-leb (variable_of code) n high)

  -- one test for both: the code less 2, which wraps where the variable is 0, is below 2 n
  pub literal-below : code < 65536 → n ≤ max_variables → ltb ((code + 65534) % 65536) (2 * n) ≡ is_literal n code
  literal-below low small =
      bool-ext (ltb ((code + 65534) % 65536) (2 * n)) (is_literal n code)
      (λ e. let below = ltb-true ((code + 65534) % 65536) (2 * n) e in literal-within (omega arith) (omega arith))
      (λ e. lt-ltb ((code + 65534) % 65536) (2 * n) (omega (arith, literal-low e, literal-high e)))

pub opposite-within : (n code : ℕ) → is_literal n code ≡ true → is_literal n (opposite_of code) ≡ true
opposite-within n code e =
    let o = opposite-is code in
    literal-within n (opposite_of code) (omega (arith, o.0, literal-low n code e)) (omega (arith, o.0, literal-high n code e))

-- ---- the ends

-- nothing falls below 0: from the first end on, the others are looked at
pub rising-first : (l : List ℕ) → rising 0 l ≡ rising (get_or l 0 0) (drop 1 l)
unfolding rising
rising-first [] = refl
rising-first (e ∷ l) = rw (le-leb 0 e (omega arith))

-- the loop at index i: b is whether the ends before it rise, `from` the last of them
module _ (b : Bool) (from : ℕ) (l : List ℕ) (i : ℕ) where
  pub rising_step : i < length l → (b && rising from (drop i l)) ≡ (b && leb from (get_or l i 0) && rising (get_or l i 0) (drop (i + 1) l))
  unfolding rising
  rising_step h = rw (drop-step l i 0 h) (sym (and_assoc b (leb from (get_or l i 0)) (rising (get_or l i 0) (drop (i + 1) l))))

  pub rising-end : length l ≤ i → (b && rising from (drop i l)) ≡ b
  unfolding rising
  rising-end h = rw (drop_of_length-le l {i = i} h) (and-true b)

pub count_none : (m : ℕ) (ends : List ℕ) → m ≡ 0 → literal_count m ends ≡ 0
unfolding literal_count
count_none m ends e = rw (eq-eqb m 0 e)

pub count-last : (m : ℕ) (ends : List ℕ) → (m ≡ 0 → ⊥) → literal_count m ends ≡ get_or ends (m - 1) 0
unfolding literal_count
count-last m ends e = rw (ne_eqb m 0 e)

-- ---- a row

-- the variables of a row's codes
abbrev pub variables : List ℕ → List ℕ
variables row = map variable_of row

pub variable-at : (row : List ℕ) (i : ℕ) → get_or (variables row) i 0 ≡ variable_of (get_or row i 0)
variable-at row i = get_or-map variable_of row i 0

-- The loop at index i: the codes before it are literals with different variables, and `seen` marks these variables.
pub record RowPassed (n : ℕ) (row : List ℕ) (seen : List Bool) (i : ℕ) : Type 0 where
  pub room : length seen ≡ 513
  pub literals : (k : ℕ) → k < i → is_literal n (get_or row k 0) ≡ true
  pub different : distinct (take i (variables row)) ≡ true
  pub marked : (v : ℕ) → v < 513 → get_or seen v false ≡ has (take i (variables row)) v

module _ (n : ℕ) (row : List ℕ) where
  pub row-length : (length row ≡ n → ⊥) → is_row n row ≡ false
  unfolding is_row
  row-length e = rw (ne_eqb (length row) n e)

  pub passed_none : RowPassed n row (replicate 513 false) 0
  unfolding any_of distinct
  passed_none = record {
    room = length-replicate 513 false;
    literals = λ k l. absurd (omega arith);
    different = refl;
    marked = λ v l. get_or-replicate 513 v false false l;
  }

  pub row-outside : (i : ℕ) → i < length row → is_literal n (get_or row i 0) ≡ false → is_row n row ≡ false
  unfolding is_row
  row-outside i h e = rw (all-not (is_literal n) row 0 i h e, and-false (eqb (length row) n))

  -- v is the variable of the code at i
  module _ (seen : List Bool) (i v : ℕ) (p : RowPassed n row seen i) (h : i < length row) (is : v ≡ variable_of (get_or row i 0)) (low : v < 513) where
    inside : i < length (variables row)
    inside = rw (length-map row variable_of) h

    here : get_or (variables row) i 0 ≡ v
    here = variable-at row i ∙ sym is

    seen-is : (b : Bool) → get_or seen v false ≡ b → has (take i (variables row)) (get_or (variables row) i 0) ≡ b
    seen-is b e = rw (here, ← (p.marked v low)) e

    pub row-twice : get_or seen v false ≡ true → is_row n row ≡ false
    unfolding is_row
    row-twice e = rw (distinct-twice (variables row) i inside (seen-is true e), and-false (eqb (length row) n && all_of (is_literal n) row))

    pub passed-more : is_literal n (get_or row i 0) ≡ true → get_or seen v false ≡ false → RowPassed n row (set seen v true) (i + 1)
    passed-more literal e = record {
      room = simp length-set p.room;
      literals = λ k l. more k (ℕ_discrete k i) l;
      different = distinct_more (variables row) i inside p.different (seen-is false e);
      marked = λ w l. rw (has_more (variables row) i w inside, here) (mark w l (ℕ_discrete w v));
    }
      where
        more : (k : ℕ) → Dec (k ≡ i) → k < i + 1 → is_literal n (get_or row k 0) ≡ true
        more k (yes q) l = rw q literal
        more k (no q) l = p.literals k (omega arith)

        mark : (w : ℕ) → w < 513 → Dec (w ≡ v) → get_or (set seen v true) w false ≡ (has (take i (variables row)) w || eqb v w)
        mark w l (yes q) = rw (eq-eqb v w (sym q), or-true (has (take i (variables row)) w), q) (get_or-set_same seen v true false (omega (arith, p.room)))
        mark w l (no q) = rw (ne_eqb v w (λ r. q (sym r)), or-false (has (take i (variables row)) w)) (get_or-set_other seen v w true false q ∙ p.marked w l)

  pub row-all : (seen : List Bool) (i : ℕ) → RowPassed n row seen i → length row ≡ n → length row ≤ i → is_row n row ≡ true
  unfolding is_row
  row-all seen i p e h =
      let all : distinct (variables row) ≡ true = rw (take_all i (variables row) (rw (length-map row variable_of) h)) at p.different in
      rw (eq-eqb (length row) n e, all_in (is_literal n) row 0 (λ k l. p.literals k (omega arith)), all)
