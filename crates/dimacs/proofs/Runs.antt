-- Runs of bytes: how a loop steps through one, and what stands in it and after it. Assumes nothing.
use mathlib.Core.Path.{◌≡◌, refl, sym, ap, ◌∙◌}
use mathlib.Core.Bool.{Bool, true, false, cond, not}
use mathlib.Core.List.{List, [], ◌∷◌}
use mathlib.Core.Logic.{⊎_elim}
use Prim.Native.Nat.{ℕ, suc, max, ◌+◌, ◌-◌, ◌≤◌, ◌<◌}
use native.Mathlib.Nat.{add-zero, add-sub_cancel_left}
use native.Mathlib.Numerals.{add-one}
use native.Mathlib.Omega.{arith}
use lib.ListN.{length, take, drop, get_or, length-drop, drop_of_length-le}
use lib.Seq.{drop-cons, get_or-drop}
use Rattle.lists.specs.Tests.{all_of}
use Rattle.lists.proofs.Cases.{lt-or-le}
use Rattle.dimacs.specs.Words.{run, run_end}

-- a loop at place i: the run ends here, at the end of the text, or goes on
module _ (test : ℕ → Bool) (text : List ℕ) (i : ℕ) where
  pub run-stop : i < length text → test (get_or text i 0) ≡ false → run_end test text i ≡ i
  unfolding run
  run-stop h e = rw (drop-cons text i 0 h, e) (omega arith)

  pub run_end_lem : length text ≤ i → run_end test text i ≡ i
  unfolding run
  run_end_lem h = rw (drop_of_length-le text h) (omega arith)

  pub run_step : i < length text → test (get_or text i 0) ≡ true → run_end test text i ≡ run_end test text (i + 1)
  unfolding run
  run_step h e = rw (add-one i, drop-cons text i 0 h, e) (omega arith)

-- a loop from `at` that is over at i: it went up to the text's end, or began past it
pub run_over : (test : ℕ → Bool) (text : List ℕ) (at i : ℕ) → run_end test text at ≡ run_end test text i → (at ≤ length text → i ≤ length text)
    → length text ≤ i → max at (length text) ≡ run_end test text at
run_over test text at i e within over =
    ⊎_elim
    (λ (h : length text < at). omega (arith, run_end_lem test text at (omega arith)))
    (λ (h : at ≤ length text). let k : i ≤ length text = within h in omega (arith, e, run_end_lem test text i over))
    (lt-or-le (length text) at)

module _ (test : ℕ → Bool) where
  pub run_length : (s : List ℕ) → length (run test s) ≤ length s
  unfolding run
  run_length [] = omega arith
  run_length (b ∷ r) = by (test b) (run_length r)
    where
      by : (t : Bool) → length (run test r) ≤ length r → length (cond t (b ∷ run test r) []) ≤ suc (length r)
      by true ih = omega arith
      by false ih = omega arith

  pub run_take : (s : List ℕ) → take (length (run test s)) s ≡ run test s
  unfolding run
  run_take [] = refl
  run_take (b ∷ r) = by (test b) (run_take r)
    where
      by : (t : Bool) → take (length (run test r)) r ≡ run test r → take (length (cond t (b ∷ run test r) [])) (b ∷ r) ≡ cond t (b ∷ run test r) []
      by true ih = ap (λ (l : List ℕ). b ∷ l) ih
      by false ih = refl

  -- what stands after a run fails the test
  pub run-after : (s : List ℕ) → length (run test s) < length s → test (get_or s (length (run test s)) 0) ≡ false
  unfolding run
  run-after [] h = absurd (omega arith)
  run-after (b ∷ r) h = by (test b) refl h (run-after r)
    where
      by : (t : Bool) → test b ≡ t → length (cond t (b ∷ run test r) []) < suc (length r)
          → (length (run test r) < length r → test (get_or r (length (run test r)) 0) ≡ false) → test (get_or (b ∷ r) (length (cond t (b ∷ run test r) [])) 0) ≡ false
      by true e k ih = ih (omega arith)
      by false e k ih = e

  pub run-all : (s : List ℕ) → all_of test (run test s) ≡ true
  unfolding run all_of
  run-all [] = refl
  run-all (b ∷ r) = by (test b) refl (run-all r)
    where
      by : (t : Bool) → test b ≡ t → all_of test (run test r) ≡ true → all_of test (cond t (b ∷ run test r) []) ≡ true
      by true e ih = rw (e, ih)
      by false e ih = refl

  -- a run that is not empty starts with the first byte
  pub run-first : (s : List ℕ) → 0 < length (run test s) → get_or (run test s) 0 0 ≡ get_or s 0 0
  unfolding run
  run-first [] h = refl
  run-first (b ∷ r) h = by (test b) h
    where
      by : (t : Bool) → 0 < length (cond t (b ∷ run test r) []) → get_or (cond t (b ∷ run test r) []) 0 0 ≡ b
      by true k = refl
      by false k = absurd (omega arith)

  -- a run that starts with a byte that passes is not empty
  pub run-some : (s : List ℕ) → 0 < length s → test (get_or s 0 0) ≡ true → 0 < length (run test s)
  unfolding run
  run-some [] h e = h
  run-some (b ∷ r) h e = rw e (omega arith)

  -- the same in a text, from a place
  module _ (text : List ℕ) (at : ℕ) where
    pub run-within : at ≤ length text → run_end test text at ≤ length text
    run-within h = omega (arith, run_length (drop at text), length-drop at text)

    pub run-part : take (run_end test text at - at) (drop at text) ≡ run test (drop at text)
    run-part = rw (add-sub_cancel_left at (length (run test (drop at text)))) (run_take (drop at text))

    pub run_past : run_end test text at < length text → test (get_or text (run_end test text at) 0) ≡ false
    run_past h =
        ap test (sym (get_or-drop at text (length (run test (drop at text))) 0))
        ∙ run-after (drop at text) (omega (arith, length-drop at text))

    pub run-forward : at < length text → test (get_or text at 0) ≡ true → at < run_end test text at
    run-forward h e =
        let here : get_or (drop at text) 0 0 ≡ get_or text at 0 = get_or-drop at text 0 0 ∙ ap (λ (n : ℕ). get_or text n 0) (add-zero at) in
        omega (arith, run-some (drop at text) (omega (arith, length-drop at text)) (ap test here ∙ e))

-- a test's opposite
pub opposite-true : (b : Bool) → b ≡ false → not b ≡ true
opposite-true b e = rw e
