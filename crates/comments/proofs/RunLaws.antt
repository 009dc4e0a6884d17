-- Runs of bytes at a place, and a run inside a longer one. Assumes nothing.
use mathlib.Core.Path.{◌≡◌, refl}
use mathlib.Core.Bool.{Bool, true, false, cond}
use mathlib.Core.List.{List, [], ◌∷◌}
use Prim.Native.Nat.{ℕ, ◌+◌, ◌<◌}
use native.Mathlib.Numerals.{add-one}
use native.Mathlib.Omega.{arith}
use lib.ListN.{length, drop, get_or}
use lib.Seq.{drop-cons, drop-drop}
use Rattle.dimacs.specs.Words.{run, run_end}

module _ (test : ℕ → Bool) where
  module _ (text : List ℕ) (i : ℕ) (h : i < length text) where
    pub run_none : test (get_or text i 0) ≡ false → run test (drop i text) ≡ []
    unfolding run
    run_none e = rw (drop-cons text i 0 h, e)

    pub run_more : test (get_or text i 0) ≡ true → run test (drop i text) ≡ get_or text i 0 ∷ run test (drop (i + 1) text)
    unfolding run
    run_more e = rw (add-one i, drop-cons text i 0 h, e)

  run-over : (s : List ℕ) → run test (drop (length (run test s)) s) ≡ []
  unfolding run
  run-over [] = refl
  run-over (b ∷ r) = by (test b) refl (run-over r)
    where
      by : (t : Bool) → test b ≡ t → run test (drop (length (run test r)) r) ≡ [] → run test (drop (length (cond t (b ∷ run test r) [])) (b ∷ r)) ≡ []
      by true e ih = ih
      by false e ih = rw e

  -- no run starts where one has ended
  pub run-ended : (text : List ℕ) (at : ℕ) → run test (drop (run_end test text at) text) ≡ []
  run-ended text at = rw (← drop-drop (length (run test (drop at text))) at text) (run-over (drop at text))

-- the run of a narrower test inside that of a wider one: it is the same in the wide run, and what is left of the wide one is the wide run from its end on
module _ (narrow wide : ℕ → Bool) (wider : (b : ℕ) → narrow b ≡ true → wide b ≡ true) where
  pub record Inside (s : List ℕ) : Type 0 where
    pub same : run narrow (run wide s) ≡ run narrow s
    pub left : drop (length (run narrow s)) (run wide s) ≡ run wide (drop (length (run narrow s)) s)
    pub sum : length (run narrow s) + length (run wide (drop (length (run narrow s)) s)) ≡ length (run wide s)

  pub inside : (s : List ℕ) → Inside s
  unfolding run
  inside [] = record { same = refl; left = refl; sum = refl }
  inside (b ∷ r) = by (narrow b) refl (inside r)
    where
      by : (t : Bool) → narrow b ≡ t → Inside r → Inside (b ∷ r)
      by true e ih =
          let w = wider b e in
          record {
            same = rw (e, w, e, ih.same);
            left = rw (e, w, ih.left);
            sum = rw (e, w) (omega (arith, ih.sum));
          }
      by false e ih = record { same = stops (wide b); left = rw e; sum = rw e (omega arith) }
        where
          stops : (t : Bool) → run narrow (cond t (b ∷ run wide r) []) ≡ cond (narrow b) (b ∷ run narrow r) []
          stops true = rw e
          stops false = rw e
