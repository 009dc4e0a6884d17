-- The next word and the number that it is, what `next_word` and `read` say together: of the words of a line, and of those of a text's body. Assumes nothing.
use mathlib.Core.Path.{◌≡◌, ◌∙◌}
use mathlib.Core.List.{List, [], ◌∷◌}
use mathlib.Core.Logic.{⊎_elim}
use Prim.Native.Nat.{ℕ, ◌≤◌, ◌<◌}
use native.Mathlib.Omega.{arith}
use lib.ListN.{length}
use Rattle.std.proofs.Common.{Ok, Err}
use Rattle.lists.proofs.Cases.{never, lt-or-le}
use Rattle.dimacs.specs.Words.{is_blank, is_word_byte, run_end, Piece, words_at}
use Rattle.dimacs.specs.Numbers.{Numeral, numeral_of, word_at, reading_at}
use Rattle.dimacs.specs.declared.Number.{Number}
use Rattle.dimacs.specs.declared.Cursor.{Cursor}
use Rattle.dimacs.specs.declared.NotNumber.{NotNumber}
use Rattle.dimacs.proofs.WordLaws as lines
use Rattle.dimacs.proofs.WordLaws.{piece_at, read_found, read-refused, read_past}
use Rattle.comments.specs.Comments.{words_past, Between, first_place}
use Rattle.comments.proofs.Walk as bodies
use Rattle.comments.proofs.Walk.{word-between}

-- the words from `at` on start with the number x, at `place`, and go on at `next`
pub record NextNumber (text : List ℕ) (words-from : ℕ → List Piece) (at place : ℕ) (x : Number) (next : ℕ) : Type 0 where
  pub words : words-from at ≡ piece_at text place ∷ words-from next
  pub number : numeral_of (word_at text place) ≡ Numeral.Is x
  pub forward : at < next
  pub between : Between text next

-- no word, or one that is no number
pub data Missing : List Piece → Type 0 where
  none : Missing []
  bad : {w : Piece} {ws : List Piece} → numeral_of w.bytes ≡ Numeral.Not → Missing (w ∷ ws)

-- where `next_word` finds this place
module _ (text : List ℕ) (words-from : ℕ → List Piece) (at place : ℕ)
    (here : place < length text → (words-from at ≡ piece_at text place ∷ words-from (run_end is_word_byte text place)) × (at < run_end is_word_byte text place))
    (nowhere : length text ≤ place → words-from at ≡ []) where
  found : (x : Number) (c : Cursor) → reading_at text place ≡ Ok (x, c) → NextNumber text words-from at place x c.at
  found x c e =
      let inside : place < length text = ⊎_elim (λ h. h) (λ h. past h) (lt-or-le place (length text)) in
      let is = read_found text place x c e in
      record {
        words = (here inside).0 ∙ rw is.past;
        number = is.number;
        forward = omega (arith, (here inside).1, is.past);
        between = rw is.past (word-between text place (omega arith));
      }
    where
      past : length text ≤ place → place < length text
      past h = never (cc (e, read_past text place h))

  missing : (q : NotNumber) → reading_at text place ≡ Err q → Missing (words-from at)
  missing q e =
      ⊎_elim
      (λ h. rw (here h).0 (bad (read-refused text place q e).0))
      (λ h. rw (nowhere h) none)
      (lt-or-le place (length text))

module _ (text : List ℕ) (at place : ℕ) (is : place ≡ run_end is_blank text at) where
  pub line-found : (x : Number) (c : Cursor) → reading_at text place ≡ Ok (x, c) → NextNumber text (words_at text) at place x c.at
  line-found = found text (words_at text) at place (λ h. (lines.next_word text at place is h, lines.word-forward text at place is h)) (lines.no_word text at place is)

  pub line-missing : (q : NotNumber) → reading_at text place ≡ Err q → Missing (words_at text at)
  line-missing = missing text (words_at text) at place (λ h. (lines.next_word text at place is h, lines.word-forward text at place is h)) (lines.no_word text at place is)

module _ (text : List ℕ) (at place : ℕ) (is : place ≡ first_place (length text) (words_past text at)) where
  pub body-found : (x : Number) (c : Cursor) → reading_at text place ≡ Ok (x, c) → NextNumber text (words_past text) at place x c.at
  body-found = found text (words_past text) at place (λ h. (bodies.next_word text at place is h, bodies.word-forward text at place is h)) (bodies.no_word text at place is)

  pub body-missing : (q : NotNumber) → reading_at text place ≡ Err q → Missing (words_past text at)
  body-missing = missing text (words_past text) at place (λ h. (bodies.next_word text at place is h, bodies.word-forward text at place is h)) (bodies.no_word text at place is)
