-- The words that stand in no comment, from a place inside a line that is none, by the byte that stands there. Assumes nothing.
use mathlib.Core.Path.{◌≡◌, refl, sym, ap, ◌∙◌}
use mathlib.Core.Bool.{Bool, true, false, not, ◌||◌}
use mathlib.Core.List.{List, [], ◌∷◌}
use mathlib.Core.Logic.{⊎_elim}
use Prim.Native.Nat.{ℕ, ◌+◌, ◌≤◌, ◌<◌}
use native.Mathlib.Nat.{add-zero}
use native.Mathlib.Omega.{arith}
use borrow.Author.Tests.{eq-eqb, ne_eqb}
use lib.ListN.{length, drop, get_or, drop_of_length-le}
use lib.Seq.{drop-drop}
use lib.Dec.{eqb}
use Rattle.lists.proofs.Cases.{never, lt-or-le}
use Rattle.dimacs.specs.Words.{is_blank, is_word_byte, run, run_end, Piece, words_from}
use Rattle.dimacs.specs.Numbers.{word_at}
use Rattle.dimacs.specs.Lines.{is_line_byte, lines_at}
use Rattle.dimacs.proofs.LineLaws.{no_line, line-here}
use Rattle.dimacs.proofs.Runs.{run_step, opposite-true}
use Rattle.dimacs.proofs.WordLaws.{piece_at, word-from, fresh-word}
use Rattle.comments.specs.Comments.{words_in, words_past}
use Rattle.comments.proofs.RunLaws.{run_none, run_more, run-ended, inside}
use Rattle.comments.proofs.CommentLaws.{comment-byte}

-- the end of a line is passed, and what is left are the lines after it
module _ (text : List ℕ) where
  pub past-line : (at : ℕ) → run is_line_byte (drop at text) ≡ [] → words_past text at ≡ words_in (lines_at text (at + 1))
  unfolding words_past words_from
  past-line at e = rw (e, add-zero at)

  pub past_end : (at : ℕ) → length text ≤ at → words_past text at ≡ []
  unfolding words_in run
  past_end at h = past-line at (rw (drop_of_length-le text h)) ∙ rw (no_line text (at + 1) (omega arith))

  -- a line from its start: a comment is passed, and of another all words are left
  pub line-comment : (at : ℕ) → at < length text → get_or text at 0 ≡ 99 → words_in (lines_at text at) ≡ words_past text (run_end is_line_byte text at)
  unfolding words_in
  line-comment at h e =
      rw (line-here text at h, comment-byte text at h, eq-eqb (get_or text at 0) 99 e)
      (sym (past-line (run_end is_line_byte text at) (run-ended is_line_byte text at)))

  pub line_other : (at : ℕ) → (get_or text at 0 ≡ 99 → ⊥) → words_in (lines_at text at) ≡ words_past text at
  unfolding words_in words_past
  line_other at e = ⊎_elim here (λ h. rw (no_line text at h) (sym (past_end at h))) (lt-or-le at (length text))
    where
      here : at < length text → words_in (lines_at text at) ≡ words_past text at
      here h = rw (line-here text at h, comment-byte text at h, ne_eqb (get_or text at 0) 99 e)

-- ---- a place inside the text, by the byte that stands there

word-in-line : (b : ℕ) → is_word_byte b ≡ true → is_line_byte b ≡ true
unfolding is_blank
word-in-line b e = by (eqb b 32) (eqb b 9) (eqb b 10) e
  where
    by : (x y z : Bool) → not (x || (y || z)) ≡ true → not z ≡ true
    by x y false e = refl
    by true y true e = never e
    by false true true e = never e
    by false false true e = never e

blank-from : (b : ℕ) (r : List ℕ) (at : ℕ) → is_blank b ≡ true → words_from true at (b ∷ r) ≡ words_from true (at + 1) r
unfolding words_from
blank-from b r at e = rw e

line_word : (s : List ℕ) (b : ℕ) (r : List ℕ) (at : ℕ) → run is_line_byte s ≡ b ∷ r → is_blank b ≡ false
    → words_from true at (run is_line_byte s)
    ≡ record { place = at; bytes = run is_word_byte s } ∷ words_from true (at + length (run is_word_byte s)) (run is_line_byte (drop (length (run is_word_byte s)) s))
line_word s b r at p e =
    let w = inside is_word_byte is_line_byte word-in-line s in
    fresh-word (run is_line_byte s) b r at p e
    ∙ ap (λ (ws : List Piece). record { place = at; bytes = run is_word_byte (run is_line_byte s) } ∷ ws) (word-from (run is_line_byte s) at)
    ∙ rw (w.same, w.left)

module _ (text : List ℕ) (at : ℕ) (h : at < length text) where
  -- the place after a blank, and the start of a line after a line feed
  pub past-blank : is_blank (get_or text at 0) ≡ true → (get_or text at 0 ≡ 10 → ⊥) → words_past text at ≡ words_past text (at + 1)
  unfolding words_past
  past-blank e f =
      let goes : is_line_byte (get_or text at 0) ≡ true = rw (ne_eqb (get_or text at 0) 10 f) in
      rw (run_step is_line_byte text at h goes, run_more is_line_byte text at h goes, blank-from (get_or text at 0) (run is_line_byte (drop (at + 1) text)) at e)

  pub past-feed : get_or text at 0 ≡ 10 → words_past text at ≡ words_in (lines_at text (at + 1))
  past-feed e = past-line text at (run_none is_line_byte text at h (rw (eq-eqb (get_or text at 0) 10 e)))

  -- a word, and what is past it
  pub past_word : is_blank (get_or text at 0) ≡ false → words_past text at ≡ piece_at text at ∷ words_past text (run_end is_word_byte text at)
  unfolding words_past
  past_word e =
      let goes = word-in-line (get_or text at 0) (opposite-true (is_blank (get_or text at 0)) e) in
      let rest : drop (length (word_at text at)) (drop at text) ≡ drop (run_end is_word_byte text at) text = drop-drop (length (word_at text at)) at text in
      let sum = (inside is_word_byte is_line_byte word-in-line (drop at text)).sum in
      let ends : run_end is_line_byte text at ≡ run_end is_line_byte text (run_end is_word_byte text at) = rw (← rest) (omega (arith, sum)) in
      rw (line_word (drop at text) (get_or text at 0) (run is_line_byte (drop (at + 1) text)) at (run_more is_line_byte text at h goes) e, rest, ends)
