-- The words of a text (document 01, "Plain formula"): "A word is a run of bytes other than space, tab and line feed."
-- Assumes nothing.
use Rattle.std.specs.Prelude.{ℕ, ◌+◌, Bool, true, false, cond, not, ◌||◌, ◌&&◌, List, [], ◌∷◌, length, drop, eqb}

-- space, tab, line feed; every other byte of 0..255 belongs to a word
unfoldable pub is_blank : ℕ → Bool
is_blank b = eqb b 32 || (eqb b 9 || eqb b 10)

abbrev pub is_word_byte : ℕ → Bool
is_word_byte b = not (is_blank b)

-- the longest run of bytes that pass the test, at the front of s
unfoldable pub run : (ℕ → Bool) → List ℕ → List ℕ
run test [] = []
run test (b ∷ rest) = cond (test b) (b ∷ run test rest) []

-- where the run that starts at a place of a text ends
abbrev pub run_end : (ℕ → Bool) → List ℕ → ℕ → ℕ
run_end test text at = at + length (run test (drop at text))

-- a part of a text: its place, as an offset from 0, and its bytes
pub record Piece : Type 0 where
  pub place : ℕ
  pub bytes : List ℕ

abbrev pub push_if : Bool → Piece → List Piece → List Piece
push_if true w ws = w ∷ ws
push_if false w ws = ws

-- the words of s, whose first byte has the place `at`: a word starts at each word byte that stands first or after a blank, which `fresh` says
unfoldable pub words_from : Bool → ℕ → List ℕ → List Piece
words_from fresh at [] = []
words_from fresh at (b ∷ rest) =
    push_if (fresh && is_word_byte b) (record { place = at; bytes = run is_word_byte (b ∷ rest) }) (words_from (is_blank b) (at + 1) rest)

-- the words of a text at and after a place
abbrev pub words_at : List ℕ → ℕ → List Piece
words_at text at = words_from true at (drop at text)
