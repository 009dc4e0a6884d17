-- The numbers that words are (document 01, "Plain formula"): "A number is a word of an optional `-` and one to six decimal digits, without
-- leading zeros except `0` itself; `-0` is no number." Assumes nothing.
use Rattle.std.specs.Prelude.{ℕ, ◌+◌, ◌-◌, ◌*◌, Bool, true, false, cond, not, ◌&&◌, List, [], ◌∷◌, length, get_or, drop, eqb, leb, Result, Ok, Err}
use Rattle.lists.specs.Tests.{all_of}
use Rattle.dimacs.specs.Words.{is_word_byte, run, run_end}
use Rattle.dimacs.specs.declared.Number.{Number}
use Rattle.dimacs.specs.declared.Cursor.{Cursor}
use Rattle.dimacs.specs.declared.NotNumber.{NotNumber}

-- what digits say
pub data Size : Type 0 where
  Is : ℕ → Size
  Not : Size

-- what a word says
pub data Numeral : Type 0 where
  Is : Number → Numeral
  Not : Numeral

unfoldable pub is_digit : ℕ → Bool
is_digit b = leb 48 b && leb b 57

-- the value of decimal digits, where v is that of the digits before them
unfoldable pub decimal_from : ℕ → List ℕ → ℕ
decimal_from v [] = v
decimal_from v (b ∷ ds) = decimal_from (v * 10 + (b - 48)) ds

-- the value of bytes that are all digits
unfoldable pub digits_of : List ℕ → Size
digits_of ds = cond (all_of is_digit ds) (Size.Is (decimal_from 0 ds)) Size.Not

-- a zero in front of other bytes
abbrev pub padded : List ℕ → Bool
padded ds = eqb (get_or ds 0 0) 48 && leb 2 (length ds)

-- "one to six decimal digits, without leading zeros except `0` itself"
unfoldable pub size_of : List ℕ → Size
size_of ds = cond (leb 1 (length ds) && leb (length ds) 6 && not (padded ds)) (digits_of ds) Size.Not

abbrev pub positive : Size → Numeral
positive (Size.Is v) = Numeral.Is (record { negative = false; size = v })
positive Size.Not = Numeral.Not

-- "`-0` is no number"
abbrev pub negated : Size → Numeral
negated (Size.Is v) = cond (eqb v 0) Numeral.Not (Numeral.Is (record { negative = true; size = v }))
negated Size.Not = Numeral.Not

-- digits, or `-` and digits
unfoldable pub numeral_of : List ℕ → Numeral
numeral_of [] = Numeral.Not
numeral_of (b ∷ rest) = cond (eqb b 45) (negated (size_of rest)) (positive (size_of (b ∷ rest)))

-- the word that starts at a place: empty at a blank and at the end
abbrev pub word_at : List ℕ → ℕ → List ℕ
word_at text at = run is_word_byte (drop at text)

abbrev pub reading_if : Numeral → ℕ → ℕ → Result (Number × Cursor) NotNumber
reading_if (Numeral.Is x) place end = Ok (x, record { at = end })
reading_if Numeral.Not place end = Err (record { at = place })

-- the number that the word at a place is, with the cursor past the word; or the place where no number is
unfoldable pub reading_at : List ℕ → ℕ → Result (Number × Cursor) NotNumber
reading_at text at = reading_if (numeral_of (word_at text at)) at (run_end is_word_byte text at)
