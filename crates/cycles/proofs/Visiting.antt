-- Going once round a cycle: what is done and what is left, and what it comes to. Assumes nothing.
use mathlib.Core.Path.{◌≡◌, refl, sym, ap, ◌∙◌}
use mathlib.Core.Bool.{Bool, true, false, not, cond, ◌&&◌, ◌||◌, beq, and-true, and-false}
use mathlib.Core.List.{List, [], ◌∷◌}
use mathlib.Core.Logic.{◌⊎◌, inl, inr}
use Prim.Native.Nat.{ℕ, ◌-◌, ◌*◌, ◌%◌, ◌≤◌}
use native.Mathlib.Omega.{arith}
use borrow.Author.Tests.{eq-eqb, ne_eqb}
use lib.ListN.{length, get_or, set, length-set}
use lib.Seq.{get_or-set_same, get_or-set_other}
use lib.Dec.{eqb}
use Rattle.lists.specs.Tests.{any_of, has}
use Rattle.lists.proofs.Cases.{never, eq-or-ne}
use Rattle.store.specs.Stores.{is_row}
use Rattle.cycles.specs.Cycles.{sent_to, turns, cycle_of, oddly, turns_odd}
use Rattle.cycles.specs.Marks.{Visited}
use Rattle.store.proofs.Formed.{Row, row_of}
use Rattle.cycles.proofs.Sent.{sent-low, sent-high}
use Rattle.cycles.proofs.Walks.{met, Closes, met-end, met-step, closes-step, closes-first}

-- The walk from z stands at v. The sign was turned an odd number of times or not, and will be on what is left. The marks that are taken away in all are
-- those that are gone and those of what is left.
pub record Rounding (row : List ℕ) (z : ℕ) (before : List Bool) (out : List Bool) (odd : Bool) (v : ℕ) : Type 0 where
  pub room : length out ≡ length before
  pub fits : length row ≤ length before
  pub low : 1 ≤ v
  pub high : v ≤ length row
  pub closes : Closes row z v
  pub parity : turns_odd row z ≡ cond odd (not (oddly (turns row) (met row z v))) (oddly (turns row) (met row z v))
  pub marks : (x : ℕ) → 1 ≤ x → x ≤ length row
      → (get_or before (x - 1) false && not (has (met row z (sent_to row z)) x)) ≡ (get_or out (x - 1) false && not (has (met row z v) x))

pub parities : (odd t p : Bool) → cond odd (not (cond t (not p) p)) (cond t (not p) p) ≡ cond (not (beq odd t)) (not p) p
parities true true true = refl
parities true true false = refl
parities true false p = refl
parities false true p = refl
parities false false p = refl

pub cond-id : (b : Bool) → cond b true false ≡ b
cond-id true = refl
cond-id false = refl

module _ (row : List ℕ) (z : ℕ) (signed : is_row (length row) row ≡ true) (low : 1 ≤ z) (high : z ≤ length row) (before : List Bool) where
  known : Row (length row) row
  known = row_of (length row) row signed

  pub rounding-begun : length row ≤ length before → Rounding row z before before (turns row z) (sent_to row z)
  unfolding turns_odd cycle_of oddly
  rounding-begun size = record {
    room = refl;
    fits = size;
    low = sent-low (length row) row known z low high;
    high = sent-high (length row) row known z low high;
    closes = closes-first (length row) row known z low high;
    parity = refl;
    marks = λ x a b. refl;
  }

  pub rounding-more : (out : List Bool) (odd : Bool) (v : ℕ) → Rounding row z before out odd v → (v ≡ z → ⊥)
      → Rounding row z before (set out (v - 1) false) (not (beq odd (turns row v))) (sent_to row v)
  unfolding oddly any_of
  rounding-more out odd v p ne = record {
    room = simp length-set p.room;
    fits = p.fits;
    low = sent-low (length row) row known v p.low p.high;
    high = sent-high (length row) row known v p.low p.high;
    closes = closes-step row z v ne p.closes;
    parity = p.parity ∙ rw step (parities odd (turns row v) (oddly (turns row) (met row z (sent_to row v))));
    marks = λ x a b. p.marks x a b ∙ rw step (mark x a b (eq-or-ne v x));
  }
    where
      step : met row z v ≡ v ∷ met row z (sent_to row v)
      step = met-step row z v ne p.closes

      mark : (x : ℕ) → 1 ≤ x → x ≤ length row → (v ≡ x) ⊎ (v ≡ x → ⊥)
          → (get_or out (x - 1) false && not (eqb v x || has (met row z (sent_to row v)) x))
          ≡ (get_or (set out (v - 1) false) (x - 1) false && not (has (met row z (sent_to row v)) x))
      mark x a b (inl q) =
          let gone : get_or (set out (v - 1) false) (x - 1) false ≡ false = rw (← q) (get_or-set_same out (v - 1) false false (omega (arith, p.room, p.fits, p.low, p.high))) in
          rw (eq-eqb v x q, gone) (and-false (get_or out (x - 1) false))
      mark x a b (inr q) =
          rw (ne_eqb v x q, get_or-set_other out (v - 1) (x - 1) false false (apart v x p.low a q))
        where
          apart : (v x : ℕ) → 1 ≤ v → 1 ≤ x → (v ≡ x → ⊥) → x - 1 ≡ v - 1 → ⊥
          apart v x c d q e = q (omega arith)

  pub rounding-done : (out : List Bool) (odd : Bool) (v : ℕ) → get_or before (z - 1) false ≡ true → Rounding row z before out odd v → v ≡ z
      → Visited row z before (set out (z - 1) (not odd))
  unfolding cycle_of any_of oddly
  rounding-done out odd v marked p e = record {
    room = simp length-set p.room;
    idle = λ h. never (sym h ∙ marked);
    own = λ h. get_or-set_same out (z - 1) (not odd) false (omega (arith, p.room, p.fits)) ∙ ap not (sym parity);
    others = λ h x a b ne.
        get_or-set_other out (z - 1) (x - 1) (not odd) false (λ q. ne (omega arith))
        ∙ sym (rw (ne_eqb z x (λ q. ne (sym q))) (p.marks x a b ∙ rw last (and-true (get_or out (x - 1) false))));
  }
    where
      last : met row z v ≡ []
      last = met-end row z v e

      parity : turns_odd row z ≡ odd
      parity = p.parity ∙ rw last (cond-id odd)

  -- a variable that is its own image
  pub visited-unmoved : get_or row (z - 1) 0 ≡ 2 * z → Visited row z before before
  unfolding turns_odd cycle_of oddly turns sent_to any_of
  visited-unmoved image =
      let own : sent_to row z ≡ z = rw image (omega arith) in
      let alone : met row z (sent_to row z) ≡ [] = met-end row z (sent_to row z) own in
      record {
        room = refl;
        idle = λ h. refl;
        own = λ h. h ∙ rw (alone, image, ne_eqb (2 * z % 2) 1 (omega arith));
        others = λ h x a b ne. rw (alone, ne_eqb z x (λ q. ne (sym q))) (sym (and-true (get_or before (x - 1) false)));
      }
