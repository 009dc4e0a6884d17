-- A walk along the marks of a row: what its pairs have together, and what the last one has. Assumes nothing.
use mathlib.Core.Path.{◌≡◌, refl, sym, ap, ◌∙◌}
use mathlib.Core.Bool.{Bool, true, false, not}
use mathlib.Core.List.{List, [], ◌∷◌}
use mathlib.Core.Logic.{◌⊎◌, inl, inr}
use Prim.Native.Nat.{ℕ, zero, suc, ◌+◌, ◌-◌, ◌*◌, ◌≤◌, ◌<◌}
use native.Mathlib.Numerals.{add-one}
use native.Mathlib.Omega.{arith}
use mir.Val.{bool_byte}
use lib.ListN.{length, get_or}
use Rattle.std.proofs.Common.{max, Option, Some, None, IfSome, SomeIff}
use Rattle.lists.specs.Sums.{sum_of}
use Rattle.lists.proofs.Cases.{lt-or-le}
use Rattle.store.specs.Literals.{variable_of}
use Rattle.store.specs.Stores.{max_variables, is_row}
use Rattle.store.proofs.Formed.{row_of}
use Rattle.cycles.specs.Cycles.{left_out}
use Rattle.cycles.specs.Marks.{marks_of}
use Rattle.lexleader.specs.Rows.{Pair, pairs_of}
use Rattle.lexleader.specs.Clause.{pair_at, pairs_at}
use Rattle.lexleader.proofs.Walk.{pairs_start, walk_end, later-pairs}
use Rattle.lexleader.proofs.Marked.{marks-length, marked-past, marked-here}
use Rattle.measure.specs.Shares.{pair_bytes, of_last, of_place, PairsSummed}
use Rattle.measure.proofs.Shares.{last_none, last_one, last_more}

-- what counts once or not at all
pub counts-most : (b : Bool) (k : ℕ) → bool_byte b * k ≤ k
counts-most true k = omega arith
counts-most false k = omega arith

-- a variable at an index of the marks, and its image
module _ (row : List ℕ) (small : length row ≤ max_variables) (good : is_row (length row) row ≡ true) {marks : List Bool} (are : marks ≡ marks_of row) (i : ℕ) (h : i < length marks) where
  pub index-inside : i < length row
  index-inside = omega (arith, marks-length row are)

  pub index-small : (i < max_variables) × (variable_of (get_or row i 0) ≤ max_variables)
  index-small = (omega (arith, index-inside), omega (arith, (row_of (length row) row good).high i index-inside))

module _ (f : Pair → ℕ) (row : List ℕ) {marks : List Bool} (are : marks ≡ marks_of row) where
  -- the sum at index i: the variable there has a share where it has no mark
  sum-here : (i : ℕ) (b : Bool) → get_or marks i false ≡ b → i < length marks
      → sum_of f (pairs_at i row) ≡ bool_byte (not b) * f (pair_at row i) + sum_of f (pairs_at (i + 1) row)
  unfolding sum_of
  sum-here i true e h = omega (arith, ap (sum_of f) (marked-past row are i h e))
  sum-here i false e h = omega (arith, ap (sum_of f) (marked-here row are i h e))

  sum_past : (i : ℕ) → length marks ≤ i → sum_of f (pairs_at i row) ≡ 0
  unfolding sum_of
  sum_past i h = ap (sum_of f) (walk_end (left_out row) row i (omega (arith, marks-length row are)))

  -- the last pair is that of the last variable without a mark
  last-next : (i : ℕ) → 0 < length (pairs_at (i + 1) row) → of_last f (pairs_at i row) ≡ of_last f (pairs_at (i + 1) row)
  last-next i some = go (lt-or-le i (length marks))
    where
      behind : (q : Pair) (pairs : List Pair) → 0 < length pairs → of_last f (q ∷ pairs) ≡ of_last f pairs
      behind q [] none = absurd (omega arith)
      behind q (p ∷ pairs) more = last_more f q p pairs

      by : (b : Bool) → get_or marks i false ≡ b → i < length marks → of_last f (pairs_at i row) ≡ of_last f (pairs_at (i + 1) row)
      by true e h = ap (of_last f) (marked-past row are i h e)
      by false e h = ap (of_last f) (marked-here row are i h e) ∙ behind (pair_at row i) (pairs_at (i + 1) row) some

      go : (i < length marks) ⊎ (length marks ≤ i) → of_last f (pairs_at i row) ≡ of_last f (pairs_at (i + 1) row)
      go (inl h) = by (get_or marks i false) refl h
      go (inr h) = absurd (omega (arith, ap length (walk_end (left_out row) row (i + 1) (omega (arith, marks-length row are)))))

  last-from : (i : ℕ) → 0 < length (pairs_at i row) → of_last f (pairs_of row) ≡ of_last f (pairs_at i row)
  last-from zero some = ap (of_last f) (pairs_start row)
  last-from (suc i) some =
      let next : i + 1 ≡ suc i = add-one i in
      let there : 0 < length (pairs_at (i + 1) row) = rw next some in
      rw (← next) (last-from i (omega (arith, later-pairs (left_out row) row i (i + 1) (omega arith))) ∙ last-next i there)

  -- at index i, where all after it are marked
  last-here : (i : ℕ) → i < length marks → get_or marks i false ≡ false → pairs_at (i + 1) row ≡ [] → of_last f (pairs_of row) ≡ f (pair_at row i)
  last-here i h e none =
      let alone : pairs_at i row ≡ pair_at row i ∷ [] = marked-here row are i h e ∙ ap (λ (l : List Pair). pair_at row i ∷ l) none in
      last-from i (omega (arith, ap length alone)) ∙ ap (of_last f) alone ∙ last_one f (pair_at row i)

  last-past : pairs_at 0 row ≡ [] → of_last f (pairs_of row) ≡ 0
  last-past none = ap (of_last f) (pairs_start row ∙ none) ∙ last_none f

-- the place of a variable, from 0, if there is one
abbrev pub place_of : ℕ → Option ℕ
place_of zero = None
place_of (suc i) = Some i

place-inside : (v n : ℕ) → v ≤ n → IfSome (place_of v) (λ i. i < n)
place-inside zero n h = tt
place-inside (suc i) n h = omega arith

-- it is what the variable has with 1 taken away, where that is possible
pub checked-place : (v : ℕ) (place : Option ℕ) → SomeIff place (1 ≤ v) (v - 1) → place ≡ place_of v
checked-place zero None e = refl
checked-place zero (Some p) e = absurd (omega (arith, e.0))
checked-place (suc i) None e = absurd (e (omega arith))
checked-place (suc i) (Some p) e = ap Some (omega (arith, e.1))

-- The loop at index i: bytes of the pairs before it, the variable of the last of these, 0 while there is none, and the variable at i.
pub record PairsPassed (row : List ℕ) (marks : List Bool) (bytes last x i : ℕ) : Type 0 where
  pub upto : i ≤ length marks
  pub own : x ≡ i + 1
  pub low : last ≤ i
  pub few : bytes ≤ 46 * i
  pub sum : sum_of pair_bytes (pairs_of row) ≡ bytes + sum_of pair_bytes (pairs_at i row)
  pub none : (f : Pair → ℕ) → pairs_at i row ≡ [] → of_last f (pairs_of row) ≡ of_place f row (place_of last)

module _ (row : List ℕ) {marks : List Bool} (are : marks ≡ marks_of row) where
  pub passed_none : PairsPassed row marks 0 0 1 0
  passed_none = record {
    upto = omega arith;
    own = refl;
    low = omega arith;
    few = omega arith;
    sum = omega (arith, ap (sum_of pair_bytes) (pairs_start row));
    none = λ f e. last-past f row are e;
  }

  module _ {bytes last x i : ℕ} (p : PairsPassed row marks bytes last x i) where
    -- with the variable at i, of t bytes where it has no mark
    pub passed-more : i < length marks → {t l : ℕ} → t ≡ pair_bytes (pair_at row i) → t ≤ 46 → (b : Bool) → get_or marks i false ≡ b
        → l ≡ max last (bool_byte (not b) * x) → PairsPassed row marks (bytes + bool_byte (not b) * t) l (x + 1) (i + 1)
    passed-more h {t} {l} is most true e larger = record {
      upto = omega arith;
      own = omega (arith, p.own);
      low = omega (arith, p.low, same);
      few = omega (arith, p.few);
      sum = omega (arith, p.sum, sum-here pair_bytes row are i true e h);
      none = λ f none. p.none f (marked-past row are i h e ∙ none) ∙ ap (λ (v : ℕ). of_place f row (place_of v)) (sym same);
    }
      where
        same : l ≡ last
        same = omega (arith, larger)
    passed-more h {t} {l} is most false e larger = record {
      upto = omega arith;
      own = omega (arith, p.own);
      low = omega (arith, here);
      few = omega (arith, p.few, most);
      sum = omega (arith, p.sum, sum-here pair_bytes row are i false e h, is);
      none = λ f none. last-here f row are i h e none ∙ ap (λ (v : ℕ). of_place f row (place_of v)) (sym here);
    }
      where
        here : l ≡ suc i
        here = omega (arith, larger, p.low, p.own)

    pub passed-all : length row ≤ max_variables → length marks ≤ i → {place : Option ℕ} → place ≡ place_of last → PairsSummed row (record { bytes = bytes; last = place })
    passed-all small h {place} is = record {
      bytes = omega (arith, p.sum, sum_past pair_bytes row are i h);
      few = omega (arith, p.few, p.upto, marks-length row are);
      inside = rw is (place-inside last (length row) (omega (arith, p.low, p.upto, marks-length row are)));
      last = λ f. rw is (p.none f (walk_end (left_out row) row i (omega (arith, marks-length row are))));
    }
