-- Words of a text as literals. Assumes nothing.
use Rattle.std.specs.Prelude.{ℕ, Bool, true, false}
use Rattle.dimacs.specs.Words.{Piece}
use Rattle.dimacs.specs.Numbers.{Numeral, numeral_of}
use Rattle.store.specs.Literals.{code_of}

abbrev pub is_numeral : Numeral → Bool
is_numeral (Numeral.Is x) = true
is_numeral Numeral.Not = false

abbrev pub numeral_code : Numeral → ℕ
numeral_code (Numeral.Is x) = code_of x.size x.negative
numeral_code Numeral.Not = 0

-- the number that a word is, as the code of a literal; 0 for the number 0 and for a word that is no number
unfoldable pub code_in : Piece → ℕ
code_in w = numeral_code (numeral_of w.bytes)
