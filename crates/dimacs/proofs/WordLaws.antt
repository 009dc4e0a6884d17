-- The words of a text: what `next_word` and `read` say of them. Assumes nothing.
use mathlib.Core.Path.{◌≡◌, refl, sym, ap, ◌∙◌}
use mathlib.Core.Bool.{Bool, true, false}
use mathlib.Core.List.{List, [], ◌∷◌}
use Prim.Native.Nat.{ℕ, suc, ◌+◌, ◌≤◌, ◌<◌}
use native.Mathlib.Nat.{add-zero}
use native.Mathlib.Omega.{arith}
use lib.ListN.{length, drop, get_or, drop_of_length-le}
use lib.Seq.{drop-cons, drop-drop}
use Rattle.dimacs.specs.Words.{is_blank, is_word_byte, run, run_end, Piece, words_from, words_at}
use Rattle.dimacs.specs.Numbers.{Numeral, numeral_of, word_at, reading_if, reading_at}
use Rattle.dimacs.specs.declared.Number.{Number}
use Rattle.dimacs.specs.declared.Cursor.{Cursor}
use Rattle.dimacs.specs.declared.NotNumber.{NotNumber}
use Rattle.std.proofs.Common.{Ok, Err}
use Rattle.dimacs.proofs.Runs.{run_past, run-forward, opposite-true}

-- ---- blanks before the first word, and the rest of a word, are passed

skip-from : (s : List ℕ) (at : ℕ) → words_from true at s ≡ words_from true (at + length (run is_blank s)) (drop (length (run is_blank s)) s)
unfolding run words_from
skip-from [] at = refl
skip-from (b ∷ r) at = by (is_blank b) refl (skip-from r (at + 1))
  where
    by : (t : Bool) → is_blank b ≡ t → words_from true (at + 1) r ≡ words_from true (at + 1 + length (run is_blank r)) (drop (length (run is_blank r)) r)
        → words_from true at (b ∷ r) ≡ words_from true (at + length (run is_blank (b ∷ r))) (drop (length (run is_blank (b ∷ r))) (b ∷ r))
    by true e ih = rw e (ih ∙ ap (λ (n : ℕ). words_from true n (drop (length (run is_blank r)) r)) (omega arith))
    by false e ih = simp (e, add-zero)

pub word-from : (s : List ℕ) (at : ℕ) → words_from false at s ≡ words_from true (at + length (run is_word_byte s)) (drop (length (run is_word_byte s)) s)
unfolding run words_from
word-from [] at = refl
word-from (b ∷ r) at = by (is_blank b) refl (word-from r (at + 1))
  where
    by : (t : Bool) → is_blank b ≡ t → words_from false (at + 1) r ≡ words_from true (at + 1 + length (run is_word_byte r)) (drop (length (run is_word_byte r)) r)
        → words_from false at (b ∷ r) ≡ words_from true (at + length (run is_word_byte (b ∷ r))) (drop (length (run is_word_byte (b ∷ r))) (b ∷ r))
    by false e ih = rw e (ih ∙ ap (λ (n : ℕ). words_from true n (drop (length (run is_word_byte r)) r)) (omega arith))
    by true e ih = simp (e, add-zero)

pub fresh-word : (s : List ℕ) (b : ℕ) (r : List ℕ) (at : ℕ) → s ≡ b ∷ r → is_blank b ≡ false
    → words_from true at s ≡ record { place = at; bytes = run is_word_byte s } ∷ words_from false at s
unfolding words_from
fresh-word s b r at p e = rw (p, e)

-- the word that starts at a place
abbrev pub piece_at : List ℕ → ℕ → Piece
piece_at text at = record { place = at; bytes = word_at text at }

module _ (text : List ℕ) where
  words-skip : (at : ℕ) → words_at text at ≡ words_at text (run_end is_blank text at)
  words-skip at =
      skip-from (drop at text) at
      ∙ ap (words_from true (run_end is_blank text at)) (drop-drop (length (run is_blank (drop at text))) at text)

  none_from : (at : ℕ) → length text ≤ at → words_at text at ≡ []
  unfolding words_from
  none_from at h = rw (drop_of_length-le text h)

  -- where a word starts, it is the first word, and the others are the words from its end on
  word-here : (at : ℕ) → at < length text → is_blank (get_or text at 0) ≡ false → words_at text at ≡ piece_at text at ∷ words_at text (run_end is_word_byte text at)
  word-here at h e =
      fresh-word (drop at text) (get_or text at 0) (drop (suc at) text) at (drop-cons text at 0 h) e
      ∙ ap (λ (ws : List Piece). piece_at text at ∷ ws)
      (word-from (drop at text) at ∙ ap (words_from true (run_end is_word_byte text at)) (drop-drop (length (word_at text at)) at text))

  -- ---- what `next_word` says: the text has no more words, or the next one stands at `place`

  module _ (at place : ℕ) (found : place ≡ run_end is_blank text at) where
    pub no_word : length text ≤ place → words_at text at ≡ []
    no_word h = words-skip at ∙ rw (← found) (none_from place h)

    ink : place < length text → is_blank (get_or text place 0) ≡ false
    ink h = rw found (run_past is_blank text at (rw found at h))

    pub next_word : place < length text → words_at text at ≡ piece_at text place ∷ words_at text (run_end is_word_byte text place)
    next_word h = words-skip at ∙ rw (← found) (word-here place h (ink h))

    pub word-forward : place < length text → at < run_end is_word_byte text place
    word-forward h = omega (arith, run-forward is_word_byte text place h (opposite-true (is_blank (get_or text place 0)) (ink h)))

-- ---- what `read` says of the word at a place

pub record IsNumber (text : List ℕ) (at : ℕ) (x : Number) (next : ℕ) : Type 0 where
  pub number : numeral_of (word_at text at) ≡ Numeral.Is x
  pub past : next ≡ run_end is_word_byte text at

module _ (text : List ℕ) (at : ℕ) where
  pub read_found : (x : Number) (c : Cursor) → reading_at text at ≡ Ok (x, c) → IsNumber text at x c.at
  unfolding reading_at
  read_found x c e = by (numeral_of (word_at text at)) refl e
    where
      by : (p : Numeral) → numeral_of (word_at text at) ≡ p → reading_if p at (run_end is_word_byte text at) ≡ Ok (x, c) → IsNumber text at x c.at
      by (Numeral.Is y) q k =
          let both : ◌≡◌ {A = Number × Cursor} (y, record { at = run_end is_word_byte text at }) (x, c) = cc in
          record { number = q ∙ ap (λ (p : Number × Cursor). Numeral.Is p.0) both; past = sym (ap (λ (p : Number × Cursor). p.1.at) both) }
      by Numeral.Not q k = let z : ◌≡◌ {A = ℕ} 0 1 = cc in absurd (omega arith)

  pub read-refused : (word : NotNumber) → reading_at text at ≡ Err word → (numeral_of (word_at text at) ≡ Numeral.Not) × (word.at ≡ at)
  unfolding reading_at
  read-refused word e = by (numeral_of (word_at text at)) refl e
    where
      by : (p : Numeral) → numeral_of (word_at text at) ≡ p → reading_if p at (run_end is_word_byte text at) ≡ Err word → (numeral_of (word_at text at) ≡ Numeral.Not) × (word.at ≡ at)
      by (Numeral.Is y) q k = let z : ◌≡◌ {A = ℕ} 0 1 = cc in absurd (omega arith)
      by Numeral.Not q k = (q, cc)

  -- a place at or past the end has no word, so no number
  pub read_past : length text ≤ at → reading_at text at ≡ Err (record { at = at })
  unfolding reading_at numeral_of run
  read_past h = rw (drop_of_length-le text h)
