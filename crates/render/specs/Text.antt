-- Numbers, literals, clauses and the header as bytes (document 01, "Made formula"). Assumes nothing.
use Rattle.std.specs.Prelude.{ℕ, zero, suc, ◌+◌, ◌/◌, ◌%◌, cond, List, [], ◌∷◌, ◌++◌, length, take, drop, ltb}
use Rattle.store.specs.Literals.{variable_of, is_negative}

-- the decimal digits of x, as bytes, in at most f digits
unfoldable pub decimal_in : ℕ → ℕ → List ℕ
decimal_in zero x = []
decimal_in (suc f) x = cond (ltb x 10) ((x + 48) ∷ []) (decimal_in f (x / 10) ++ ((x % 10 + 48) ∷ []))

-- the decimal digits of a number below 10^20, so of any number of 64 bits
abbrev pub max_digits : ℕ
max_digits = 20

unfoldable pub decimal : ℕ → List ℕ
decimal x = decimal_in max_digits x

-- a literal: `-` before a negative one, and its variable's number
unfoldable pub literal_text : ℕ → List ℕ
literal_text code = cond (is_negative code) (45 ∷ decimal (variable_of code)) (decimal (variable_of code))

-- "literals as read, one space between, ` 0` and a line feed; an empty clause's line is `0` alone": a space follows each literal
unfoldable pub clause_line : List ℕ → List ℕ
clause_line [] = 48 ∷ 10 ∷ []
clause_line (code ∷ clause) = literal_text code ++ 32 ∷ clause_line clause

-- two numbers, one space between, and a line feed
unfoldable pub two_numbers : ℕ → ℕ → List ℕ
two_numbers a b = decimal a ++ 32 ∷ [] ++ decimal b ++ 10 ∷ []

-- "Header line: `p cnf N M`"
unfoldable pub header_line : ℕ → ℕ → List ℕ
header_line variables clauses = 112 ∷ 32 ∷ 99 ∷ 110 ∷ 102 ∷ 32 ∷ [] ++ two_numbers variables clauses

-- the program's line `refused NUMBER WHERE`
unfoldable pub refusal_line : ℕ → ℕ → List ℕ
refusal_line number place = 114 ∷ 101 ∷ 102 ∷ 117 ∷ 115 ∷ 101 ∷ 100 ∷ 32 ∷ [] ++ two_numbers number place

-- a buffer with some bytes written over it from a place on
unfoldable pub written_at : ℕ → List ℕ → List ℕ → List ℕ
written_at at bytes buffer = take at buffer ++ bytes ++ drop (at + length bytes) buffer
