-- A walk along a row's moved variables: what one step finds, which pairs there are, and where nothing is moved. Assumes nothing.
use Rattle.std.specs.Prelude.{Option, Some, None, MatchOption, unwrap_or}
use mathlib.Core.Path.{◌≡◌, refl, sym, ap, ◌∙◌}
use mathlib.Core.Bool.{Bool, true, false, not, ◌&&◌, ◌||◌, beq, or-true}
use mathlib.Core.List.{List, [], ◌∷◌, Memᴰ}
use mathlib.Core.Logic.{⊎_elim}
use Prim.Native.Nat.{ℕ, ◌+◌, ◌*◌, ◌/◌, ◌≤◌, ◌<◌}
use native.Mathlib.Omega.{arith}
use borrow.Author.Tests.{ltb-true, lt-ltb}
use lib.Dec.{ltb}
use lib.ListN.{length, get_or}
use Rattle.lists.proofs.Cases.{never, and_l, and_r, and_both, eq-or-ne}
use Rattle.lexleader.specs.Rows.{Pair, stays, moved_pairs}
use Rattle.lexleader.specs.Clause.{pair_at}
use Rattle.lexleader.proofs.Walk.{walk_end, later-pairs}
use Rattle.lexleader.proofs.Moved.{moved-start, moved-past, moved_here}
use Rattle.lexleader.specs.Deciding.{decides, deciding, lowers_along}
use Rattle.valuation.specs.Tables.{by_code}
use Rattle.trial.specs.Spans.{moved_at, FirstMoved, placed, SameFound, Decides, Covers, IsSpan}

-- ---- a step

module _ (value : ℕ → Bool) where
  pub found-start : {pairs rest : List Pair} → pairs ≡ rest → SameFound value pairs rest
  found-start e = record { yes = ap (lowers_along value) e; variable = ap (deciding value) e }

  found-on : {pairs rest next : List Pair} → SameFound value pairs rest → SameFound value rest next → SameFound value pairs next
  found-on s t = record { yes = s.yes ∙ t.yes; variable = s.variable ∙ t.variable }

  module _ (row : List ℕ) (i : ℕ) (h : i < length row) where
    found-past : get_or row i 0 ≡ 2 * (i + 1) → SameFound value (moved_at i row) (moved_at (i + 1) row)
    found-past e = found-start (moved-past row i h e)

    module _ (m : get_or row i 0 ≡ 2 * (i + 1) → ⊥) where
      found_alike : not (beq (value (2 * (i + 1))) (value (get_or row i 0))) ≡ false → SameFound value (moved_at i row) (moved_at (i + 1) row)
      unfolding lowers_along deciding decides
      found_alike e = let front = moved_here row i h m in record { yes = rw (front, e); variable = rw (front, e) }

      found_here : not (beq (value (2 * (i + 1))) (value (get_or row i 0))) ≡ true
          → (deciding value (moved_at i row) ≡ i + 1) × (lowers_along value (moved_at i row) ≡ value (2 * (i + 1)))
      unfolding lowers_along deciding decides
      found_here e =
          let half : 2 * (i + 1) / 2 ≡ i + 1 = omega arith in
          let front = moved_here row i h m in
          (rw (front, e) half, rw (front, e))

  found_none : (deciding value [] ≡ 0) × (lowers_along value [] ≡ false)
  unfolding lowers_along deciding
  found_none = (refl, refl)

-- ---- the values that a trial reads

pub placed-all : (values : List Bool) (pairs : List Pair) → ((q : Pair) → Memᴰ q pairs → (q.x < length values) × (q.y < length values))
    → placed values pairs ≡ true
unfolding placed
placed-all values [] all = refl
placed-all values (q ∷ pairs) all =
    let here = all q (Memᴰ.head refl) in
    and_both (and_both (lt-ltb q.x (length values) here.0) (lt-ltb q.y (length values) here.1))
    (rw (placed-all values pairs (λ p m. all p (Memᴰ.tail m))) (or-true (decides (by_code values) q)))

module _ (values : List Bool) (row : List ℕ) (i : ℕ) (h : i < length row) (p : placed values (moved_at i row) ≡ true) where
  placed_past : get_or row i 0 ≡ 2 * (i + 1) → placed values (moved_at (i + 1) row) ≡ true
  placed_past e = rw (moved-past row i h e) at p

  module _ (m : get_or row i 0 ≡ 2 * (i + 1) → ⊥) where
    -- the places of the pair at i
    abbrev inside : Bool
    inside = ltb (2 * (i + 1)) (length values) && ltb (get_or row i 0) (length values)

    -- what comes after it is asked for
    abbrev after : Bool
    after = decides (by_code values) (pair_at row i) || placed values (moved_at (i + 1) row)

    front : (inside && after) ≡ true
    unfolding placed
    front = rw (moved_here row i h m) at p

    pub placed-here : (2 * (i + 1) < length values) × (get_or row i 0 < length values)
    placed-here =
        let both = and_l inside after front in (
          ltb-true (2 * (i + 1)) (length values) (and_l (ltb (2 * (i + 1)) (length values)) (ltb (get_or row i 0) (length values)) both),
          ltb-true (get_or row i 0) (length values) (and_r (ltb (2 * (i + 1)) (length values)) (ltb (get_or row i 0) (length values)) both),
        )

    placed_alike : not (beq (by_code values (2 * (i + 1))) (by_code values (get_or row i 0))) ≡ false → placed values (moved_at (i + 1) row) ≡ true
    unfolding decides
    placed_alike e = rw e at (and_r inside after front)

-- ---- the ways out of `decides`

module _ (row : List ℕ) (values : List Bool) (i : ℕ) (h : i < length row) (p : placed values (moved_at i row) ≡ true) where
  pub decides-past : get_or row i 0 ≡ 2 * (i + 1) → Decides row values i false
  decides-past e = record {
    place = λ t. never t;
    variable = λ t. never t;
    yes = λ t. never t;
    rest = λ _. found-past (by_code values) row i h e;
    rest-placed = λ _. placed_past values row i h p e;
  }

  pub decides-moved : (get_or row i 0 ≡ 2 * (i + 1) → ⊥) → Decides row values i (not (beq (by_code values (2 * (i + 1))) (by_code values (get_or row i 0))))
  decides-moved m = record {
    place = λ _. (placed-here values row i h p m).0;
    variable = λ t. (found_here (by_code values) row i h m t).0;
    yes = λ t. (found_here (by_code values) row i h m t).1;
    rest = λ f. found_alike (by_code values) row i h m f;
    rest-placed = λ f. placed_alike values row i h p m f;
  }

-- ---- a walk that has found nothing before index i

pub record Trying (row : List ℕ) (values : List Bool) (i : ℕ) : Type 0 where
  pub found : SameFound (by_code values) (moved_pairs row) (moved_at i row)
  pub places : placed values (moved_at i row) ≡ true

module _ {row : List ℕ} {values : List Bool} {i : ℕ} (t : Trying row values i) where
  pub trying-on : {b : Bool} → Decides row values i b → b ≡ false → Trying row values (i + 1)
  trying-on d f = record { found = found-on (by_code values) t.found (d.rest f); places = d.rest-placed f }

  -- past the last moved variable
  pub trying-none : {first end : ℕ} → Covers row first end → i ≡ end
      → (0 ≡ deciding (by_code values) (moved_pairs row)) × (false ≡ lowers_along (by_code values) (moved_pairs row))
  trying-none c e =
      let none = found-on (by_code values) t.found (found-start (by_code values) (ap (λ (k : ℕ). moved_at k row) e ∙ c.none_after)) in
      (sym (none.variable ∙ (found_none (by_code values)).0), sym (none.yes ∙ (found_none (by_code values)).1))

-- ---- the pairs of a row

module _ (row : List ℕ) where
  -- where the pairs do not become fewer, nothing is moved
  none_between : (j k : ℕ) → length (moved_at j row) ≡ length (moved_at k row) → (i : ℕ) → j ≤ i → i < k → i < length row → get_or row i 0 ≡ 2 * (i + 1)
  none_between j k e i low high h =
      ⊎_elim (λ (s : get_or row i 0 ≡ 2 * (i + 1)). s)
      (λ (m : get_or row i 0 ≡ 2 * (i + 1) → ⊥).
      absurd (omega (arith, e, (later-pairs (stays row) row j i low).0, (later-pairs (stays row) row (i + 1) k (omega arith)).0, ap length (moved_here row i h m))))
      (eq-or-ne (get_or row i 0) (2 * (i + 1)))

-- ---- spans

-- a walk of the moved variables starts at the first, or at the row's end
pub starts-at : {row : List ℕ} (r : Option ℕ) {first : ℕ} → MatchOption r (moved_pairs row ≡ []) (λ i. (i < length row) × FirstMoved row i)
    → first ≡ unwrap_or r (length row) → FirstMoved row first
starts-at {row} None none e = rw e (record {
  within = omega arith;
  onward = omega arith;
  same = sym (moved-start row) ∙ none ∙ sym (walk_end (stays row) row (length row) (omega arith));
  here = λ h. absurd (omega arith);
})
starts-at (Some i) is e = rw e is.1

pub covers-all : (row : List ℕ) → Covers row 0 (length row)
covers-all row = record { order = omega arith; within = omega arith; none_before = moved-start row; none_after = walk_end (stays row) row (length row) (omega arith) }

module _ {row : List ℕ} {first end : ℕ} where
  pub span-covers : IsSpan row first end → Covers row first end
  span-covers s = record { order = s.order; within = s.within; none_before = moved-start row ∙ s.starts.same; none_after = s.none_after }

  module _ (c : Covers row first end) (i : ℕ) where
    pub stays-before : i < first → get_or row i 0 ≡ 2 * (i + 1)
    stays-before h =
        none_between row 0 first (ap length (sym (moved-start row) ∙ c.none_before)) i (omega arith) h (omega (arith, c.order, c.within))

    pub stays_after : end ≤ i → i < length row → get_or row i 0 ≡ 2 * (i + 1)
    stays_after h l = none_between row end (length row) (ap length (c.none_after ∙ sym (walk_end (stays row) row (length row) (omega arith)))) i h l l
