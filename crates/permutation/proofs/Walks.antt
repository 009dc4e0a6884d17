-- A loop over the words of a line: what `next_word` and `read` find is the first word that is left. Assumes nothing.
use mathlib.Core.Path.{◌≡◌}
use mathlib.Core.Bool.{Bool, true, false}
use mathlib.Core.List.{List, ◌∷◌, map}
use mathlib.Core.Logic.{⊎_elim}
use Prim.Native.Nat.{ℕ, ◌≤◌, ◌<◌}
use native.Mathlib.Omega.{arith}
use lib.ListN.{length}
use Rattle.std.proofs.Common.{Ok, Err}
use Rattle.lists.proofs.Cases.{lt-or-le}
use Rattle.dimacs.specs.Words.{is_blank, is_word_byte, run_end, words_at}
use Rattle.dimacs.specs.Numbers.{numeral_of, word_at, reading_at}
use Rattle.dimacs.specs.declared.Number.{Number}
use Rattle.dimacs.specs.declared.Cursor.{Cursor}
use Rattle.dimacs.specs.declared.NotNumber.{NotNumber}
use Rattle.dimacs.proofs.WordLaws.{piece_at, next_word, word-forward, read_found, read-refused, read_past}
use Rattle.store.specs.Literals.{code_of, variable_of}
use Rattle.store.specs.Numerals.{is_numeral, code_in}

-- the first word at or after `at` stands at `place` and is the number x, and the other words are those from `next` on
pub record Word (line : List ℕ) (at place : ℕ) (x : Number) (next : ℕ) : Type 0 where
  pub words : words_at line at ≡ piece_at line place ∷ words_at line next
  pub number : is_numeral (numeral_of (word_at line place)) ≡ true
  pub code : code_in (piece_at line place) ≡ code_of x.size x.negative
  pub size : variable_of (code_in (piece_at line place)) ≡ x.size
  pub forward : at < next

-- that word is no number
pub record Stray (line : List ℕ) (at place : ℕ) : Type 0 where
  pub words : words_at line at ≡ piece_at line place ∷ words_at line (run_end is_word_byte line place)
  pub number : is_numeral (numeral_of (word_at line place)) ≡ false
  pub code : code_in (piece_at line place) ≡ 0

pub half : (s : ℕ) (b : Bool) → variable_of (code_of s b) ≡ s
half s true = omega arith
half s false = omega arith

module _ (line : List ℕ) (at place : ℕ) (found : place ≡ run_end is_blank line at) where
  pub word_read : (x : Number) (c : Cursor) → reading_at line place ≡ Ok (x, c) → Word line at place x c.at
  unfolding code_in
  word_read x c e = ⊎_elim inside past (lt-or-le place (length line))
    where
      inside : place < length line → Word line at place x c.at
      inside h =
          let n = read_found line place x c e in
          record {
            words = rw n.past (next_word line at place found h);
            number = rw n.number;
            code = rw n.number;
            size = rw n.number (half x.size x.negative);
            forward = rw n.past (word-forward line at place found h);
          }

      past : length line ≤ place → Word line at place x c.at
      past h = let z : ◌≡◌ {A = ℕ} 0 1 = cc (read_past line place h) in absurd (omega arith)

  pub word-refused : place < length line → (p : NotNumber) → reading_at line place ≡ Err p → Stray line at place
  unfolding code_in
  word-refused h p e =
      let n = read-refused line place p e in
      record { words = next_word line at place found h; number = rw n.0; code = rw n.0 }

-- the names and the codes from a place on
abbrev pub names_from : List ℕ → ℕ → List ℕ
names_from line at = map (λ w. variable_of (code_in w)) (words_at line at)

abbrev pub codes_from : List ℕ → ℕ → List ℕ
codes_from line at = map code_in (words_at line at)
