-- A walk to the first word that stands in no comment: byte after byte as `next_word` goes, and what is found at its end. Assumes nothing.
use mathlib.Core.Path.{◌≡◌, refl, sym, ap, ◌∙◌}
use mathlib.Core.Bool.{Bool, true, false, cond, ◌&&◌}
use mathlib.Core.List.Memᴰ
use mathlib.Core.List.{List, [], ◌∷◌, Memᴰ}
use mathlib.Core.Logic.{⊎_elim}
use Prim.Native.Nat.{ℕ, ◌+◌, ◌-◌, ◌≤◌, ◌<◌}
use native.Mathlib.Omega.{arith}
use borrow.Author.Tests.{eq-eqb, ne_eqb, eqb-true, not-false}
use lib.ListN.{length, get_or, get_or-eq_default}
use lib.Dec.{eqb}
use Rattle.std.proofs.lemmas.List.{get_or_default}
use Rattle.lists.proofs.Cases.{never, and_l, and_r, lt-or-le, eq-or-ne}
use Rattle.lists.proofs.Steps.{forward}
use Rattle.dimacs.specs.Words.{is_blank, is_word_byte, run_end, Piece}
use Rattle.dimacs.specs.Numbers.{word_at}
use Rattle.dimacs.specs.Lines.{is_line_byte, lines_at}
use Rattle.dimacs.proofs.Runs.{run-stop, run_end_lem, run_step, run_past, run-forward, run-within, opposite-true}
use Rattle.dimacs.proofs.WordLaws.{piece_at}
use Rattle.comments.specs.Comments.{words_in, starts_comment, words_past, Between, first_place}
use Rattle.comments.proofs.WordLaws.{past_end, line-comment, line_other, past-blank, past-feed, past_word}

-- a blank is no `c`, nor is what ends a line
blank-other : (b : ℕ) → is_blank b ≡ true → b ≡ 99 → ⊥
unfolding is_blank
blank-other b e c = never (rw c at e)

end-other : (text : List ℕ) (at : ℕ) → get_or text (run_end is_line_byte text at) 0 ≡ 99 → ⊥
end-other text at c = ⊎_elim within beyond (lt-or-le (run_end is_line_byte text at) (length text))
  where
    within : run_end is_line_byte text at < length text → ⊥
    within h = never (sym (run_past is_line_byte text at h) ∙ rw c)

    beyond : length text ≤ run_end is_line_byte text at → ⊥
    beyond h = omega (arith, sym (get_or-eq_default text 0 h) ∙ c)

between-other : (text : List ℕ) (at : ℕ) → Between text at → get_or text at 0 ≡ 99 → ⊥
unfolding is_blank
between-other text at b c = ⊎_elim within beyond (lt-or-le at (length text))
  where
    within : at < length text → ⊥
    within h = let is : get_or text at 32 ≡ 99 = get_or_default text at 32 0 h ∙ c in never (rw is at b.1)

    beyond : length text ≤ at → ⊥
    beyond h = omega (arith, sym (get_or-eq_default text 0 h) ∙ c)

-- where a word or a line has ended
module _ (test : ℕ → Bool) (stops : (b : ℕ) → test b ≡ false → is_blank b ≡ true) (text : List ℕ) (at : ℕ) where
  run-between : at ≤ length text → Between text (run_end test text at)
  unfolding is_blank
  run-between h = (run-within test text at h, ⊎_elim within beyond (lt-or-le (run_end test text at) (length text)))
    where
      within : run_end test text at < length text → is_blank (get_or text (run_end test text at) 32) ≡ true
      within k = ap is_blank (get_or_default text (run_end test text at) 32 0 k) ∙ stops (get_or text (run_end test text at) 0) (run_past test text at k)

      beyond : length text ≤ run_end test text at → is_blank (get_or text (run_end test text at) 32) ≡ true
      beyond k = rw (get_or-eq_default text 32 k)

word-stops : (b : ℕ) → is_word_byte b ≡ false → is_blank b ≡ true
word-stops b e = not-false (is_blank b) e

line-stops : (b : ℕ) → is_line_byte b ≡ false → is_blank b ≡ true
unfolding is_blank
line-stops b e = rw (eqb-true b 10 (not-false (eqb b 10) e))

pub word-between : (text : List ℕ) (at : ℕ) → at ≤ length text → Between text (run_end is_word_byte text at)
word-between text at h = run-between is_word_byte word-stops text at h

pub line-between : (text : List ℕ) (at : ℕ) → at ≤ length text → Between text (run_end is_line_byte text at)
line-between text at h = run-between is_line_byte line-stops text at h

-- ---- what is left at a place of the walk: the lines from there on, where a line feed stands before it

unfoldable pub left : List ℕ → ℕ → List Piece
left text i = cond (eqb (get_or text (i - 1) 0) 10) (words_in (lines_at text i)) (words_past text i)

module _ (text : List ℕ) where
  left_other : (i : ℕ) → (get_or text i 0 ≡ 99 → ⊥) → left text i ≡ words_past text i
  unfolding left
  left_other i e = by (eqb (get_or text (i - 1) 0) 10)
    where
      by : (t : Bool) → cond t (words_in (lines_at text i)) (words_past text i) ≡ words_past text i
      by true = line_other text i e
      by false = refl

  pub left-start : (at : ℕ) → Between text at → words_past text at ≡ left text at
  left-start at b = sym (left_other at (between-other text at b))

  pub left_word : (i : ℕ) → starts_comment text i ≡ false → left text i ≡ words_past text i
  unfolding left starts_comment
  left_word i e = by (eqb (get_or text (i - 1) 0) 10) (eqb (get_or text i 0) 99) refl e
    where
      by : (t u : Bool) → eqb (get_or text i 0) 99 ≡ u → (u && t) ≡ false → cond t (words_in (lines_at text i)) (words_past text i) ≡ words_past text i
      by false u k q = refl
      by true true k q = never (sym q)
      by true false k q = line_other text i (λ c. never (sym k ∙ eq-eqb (get_or text i 0) 99 c))

  -- a comment is passed, and its end lies ahead
  pub record Comment (i : ℕ) : Type 0 where
    pub words : left text i ≡ left text (run_end is_line_byte text i)
    pub forward : i < run_end is_line_byte text i

  pub comment-passed : (i : ℕ) → i < length text → starts_comment text i ≡ true → Comment i
  unfolding left starts_comment
  comment-passed i h e =
      let c : get_or text i 0 ≡ 99 = eqb-true (get_or text i 0) 99 (and_l (eqb (get_or text i 0) 99) (eqb (get_or text (i - 1) 0) 10) e) in
      record {
        words = rw (and_r (eqb (get_or text i 0) 99) (eqb (get_or text (i - 1) 0) 10) e) (line-comment text i h c) ∙ sym (left_other (run_end is_line_byte text i) (end-other text i));
        forward = run-forward is_line_byte text i h (rw c);
      }

  left-blank : (i : ℕ) → i < length text → is_blank (get_or text i 0) ≡ true → left text i ≡ left text (i + 1)
  unfolding left
  left-blank i h e = left_other i (blank-other (get_or text i 0) e) ∙ ⊎_elim feed other (eq-or-ne (get_or text i 0) 10)
    where
      back : i + 1 - 1 ≡ i
      back = omega arith

      feed : get_or text i 0 ≡ 10 → words_past text i ≡ left text (i + 1)
      feed f = past-feed text i h f ∙ rw (back, eq-eqb (get_or text i 0) 10 f)

      other : (get_or text i 0 ≡ 10 → ⊥) → words_past text i ≡ left text (i + 1)
      other f = past-blank text i h e f ∙ rw (back, ne_eqb (get_or text i 0) 10 f)

  abbrev Blanks : ℕ → Type 0
  Blanks i = left text i ≡ left text (run_end is_blank text i)

  pub left-blanks : (i : ℕ) → Blanks i
  left-blanks = forward (length text) Blanks (λ i h. ap (left text) (sym (run_end_lem is_blank text i h))) here
    where
      here : (i : ℕ) → ((next : ℕ) → i < next → Blanks next) → Blanks i
      here i later = ⊎_elim within (λ h. ap (left text) (sym (run_end_lem is_blank text i h))) (lt-or-le i (length text))
        where
          within : i < length text → Blanks i
          within h = by (is_blank (get_or text i 0)) refl
            where
              by : (t : Bool) → is_blank (get_or text i 0) ≡ t → Blanks i
              by true e = left-blank i h e ∙ later (i + 1) (omega arith) ∙ ap (left text) (sym (run_step is_blank text i h e))
              by false e = ap (left text) (sym (run-stop is_blank text i h e))

  -- a word was found, or the end
  pub first_word : (i : ℕ) → i < length text → is_blank (get_or text i 0) ≡ false → first_place (length text) (words_past text i) ≡ i
  unfolding first_place
  first_word i h e = rw (past_word text i h e)

  pub first-none : (i : ℕ) → length text ≤ i → first_place (length text) (left text i) ≡ length text
  unfolding first_place
  first-none i h = rw (left_other i (λ c. omega (arith, sym (get_or-eq_default text 0 h) ∙ c)), past_end text i h)

-- where a walk from `at` stands: at the next word of what is left, a comment's perhaps, which has a byte before it; or at the end
pub record Reached (text : List ℕ) (at i : ℕ) : Type 0 where
  pub words : words_past text at ≡ left text i
  pub within : i ≤ length text
  pub ink : i < length text → is_blank (get_or text i 0) ≡ false
  pub begun : i < length text → 1 ≤ i

pub reached_first : (text : List ℕ) (at i : ℕ) → Between text at → i ≡ run_end is_blank text at → Reached text at i
reached_first text at i b e =
    rw e (record {
      words = left-start text at b ∙ left-blanks text at;
      within = run-within is_blank text at b.0;
      ink = run_past is_blank text at;
      begun = λ h. ⊎_elim (within h) (λ (k : length text ≤ at). absurd (omega (arith, run_end_lem is_blank text at k))) (lt-or-le at (length text));
    })
  where
    within : run_end is_blank text at < length text → at < length text → 1 ≤ run_end is_blank text at
    within h k = omega (arith, run-forward is_blank text at k (ap is_blank (get_or_default text at 0 32 k) ∙ b.1))

pub reached_next : (text : List ℕ) (at i end next : ℕ) → Reached text at i → i < length text → starts_comment text i ≡ true
    → end ≡ run_end is_line_byte text i → next ≡ run_end is_blank text end → (i < next) × Reached text at next
reached_next text at i end next r h c e n =
    let passed = comment-passed text i h c in
    let ends : end ≤ length text = omega (arith, e, run-within is_line_byte text i r.within) in
    let forward : i < next = omega (arith, e, n, passed.forward) in (
      forward,
      record {
        words = r.words ∙ passed.words ∙ ap (left text) (sym e) ∙ left-blanks text end ∙ ap (left text) (sym n);
        within = omega (arith, n, run-within is_blank text end ends);
        ink = λ k. rw n (run_past is_blank text end (rw n at k));
        begun = λ k. omega arith;
      },
    )

-- ---- one step, by the byte at a place

pub data Step (text : List ℕ) (at : ℕ) : Type 0 where
  ends : length text ≤ at → Step text at
  word : at < length text → is_blank (get_or text at 0) ≡ false → Step text at
  blank : at < length text → is_blank (get_or text at 0) ≡ true → words_past text at ≡ words_past text (at + 1) → Step text at
  comment : at + 1 < length text → get_or text at 0 ≡ 10 → get_or text (at + 1) 0 ≡ 99
      → words_past text at ≡ words_past text (run_end is_line_byte text (at + 1)) → Step text at

-- the comment of such a step
pub starts : (text : List ℕ) (at : ℕ) → get_or text at 0 ≡ 10 → get_or text (at + 1) 0 ≡ 99 → starts_comment text (at + 1) ≡ true
unfolding starts_comment
starts text at feed letter =
    let back : at + 1 - 1 ≡ at = omega arith in
    rw (letter, back, feed)

pub step : (text : List ℕ) (at : ℕ) → Step text at
step text at = ⊎_elim within ends (lt-or-le at (length text))
  where
    within : at < length text → Step text at
    within h = by (is_blank (get_or text at 0)) refl
      where
        by : (t : Bool) → is_blank (get_or text at 0) ≡ t → Step text at
        by false e = word h e
        by true e = ⊎_elim feed (λ f. blank h e (past-blank text at h e f)) (eq-or-ne (get_or text at 0) 10)
          where
            feed : get_or text at 0 ≡ 10 → Step text at
            feed f =
                ⊎_elim
                (λ c. let inside = there-is c in comment inside f c (past-feed text at h f ∙ line-comment text (at + 1) inside c))
                (λ c. blank h e (past-feed text at h f ∙ line_other text (at + 1) c))
                (eq-or-ne (get_or text (at + 1) 0) 99)
              where
                there-is : get_or text (at + 1) 0 ≡ 99 → at + 1 < length text
                there-is c = ⊎_elim (λ k. k) (λ k. absurd (omega (arith, sym (get_or-eq_default text 0 k) ∙ c))) (lt-or-le (at + 1) (length text))

-- ---- the first word, and what is past it

data First (text : List ℕ) (at : ℕ) : Type 0 where
  none : words_past text at ≡ [] → First text at
  word : (place : ℕ) → at ≤ place → place < length text → is_blank (get_or text place 0) ≡ false
      → words_past text at ≡ piece_at text place ∷ words_past text (run_end is_word_byte text place) → First text at

module _ (text : List ℕ) where
  passed : (at next : ℕ) → at ≤ next → words_past text at ≡ words_past text next → First text next → First text at
  passed at next h e (First.none q) = First.none (e ∙ q)
  passed at next h e (First.word place k within ink q) = First.word place (omega arith) within ink (e ∙ q)

  first : (at : ℕ) → First text at
  first = forward (length text) (First text) (λ at h. First.none (past_end text at h)) (λ at later. by at later (step text at))
    where
      by : (at : ℕ) → ((next : ℕ) → at < next → First text next) → Step text at → First text at
      by at later (Step.ends e) = First.none (past_end text at e)
      by at later (Step.word within ink) = First.word at (omega arith) within ink (past_word text at within ink)
      by at later (Step.blank within b e) = passed at (at + 1) (omega arith) e (later (at + 1) (omega arith))
      by at later (Step.comment within f c e) =
          passed at (run_end is_line_byte text (at + 1)) (omega arith) e (later (run_end is_line_byte text (at + 1)) (omega arith))

  -- ---- what `next_word` says: there is no further word, or the next one stands at `place`

  module _ (at place : ℕ) (found : place ≡ first_place (length text) (words_past text at)) where
    pub no_word : length text ≤ place → words_past text at ≡ []
    unfolding first_place
    no_word h = by (first at)
      where
        by : First text at → words_past text at ≡ []
        by (First.none e) = e
        by (First.word p k within ink e) = let same : place ≡ p = rw e at found in absurd (omega arith)

    -- the word, and what is past it
    record Next : Type 0 where
      words : words_past text at ≡ piece_at text place ∷ words_past text (run_end is_word_byte text place)
      forward : at < run_end is_word_byte text place

    next : place < length text → Next
    unfolding first_place
    next h = by (first at)
      where
        by : First text at → Next
        by (First.none e) = let same : place ≡ length text = rw e at found in absurd (omega arith)
        by (First.word p k within ink e) =
            let same : p ≡ place = sym (rw e at found) in
            record {
              words = rw same at e;
              forward = omega (arith, run-forward is_word_byte text place h (opposite-true (is_blank (get_or text place 0)) (rw same at ink)));
            }

    pub next_word : place < length text → words_past text at ≡ piece_at text place ∷ words_past text (run_end is_word_byte text place)
    next_word h = (next h).words

    pub word-forward : place < length text → at < run_end is_word_byte text place
    word-forward h = (next h).forward

-- ---- every word stands in the text at its place

pub record Stands (text : List ℕ) (w : Piece) : Type 0 where
  pub within : w.place < length text
  pub starts : is_blank (get_or text w.place 0) ≡ false
  pub bytes : w.bytes ≡ word_at text w.place

module _ (text : List ℕ) (w : Piece) where
  abbrev From : ℕ → Type 0
  From at = Memᴰ w (words_past text at) → Stands text w

  pub stands : (at : ℕ) → From at
  stands = forward (length text) From (λ at h m. absurd (Memᴰ.not-nil (rw (past_end text at h) at m))) (λ at later m. by at later m (first text at))
    where
      by : (at : ℕ) → ((next : ℕ) → at < next → From next) → Memᴰ w (words_past text at) → First text at → Stands text w
      by at later m (First.none e) = absurd (Memᴰ.not-nil (rw e at m))
      by at later m (First.word place k within ink e) =
          ⊎_elim
          (λ q. rw q (record { within = within; starts = ink; bytes = refl }))
          (later (run_end is_word_byte text place) (omega (arith, run-forward is_word_byte text place within (opposite-true (is_blank (get_or text place 0)) ink))))
          (Memᴰ.cases_cons (rw e at m))
