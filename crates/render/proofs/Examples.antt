-- Document 01's lines, by computation on the definitions. Assumes nothing.
use mathlib.Core.Path.{◌≡◌, refl}
use mathlib.Core.List.{[], ◌∷◌, map}
use Rattle.render.specs.Text.{decimal_in, decimal, literal_text, clause_line, header_line, refusal_line, two_numbers}

-- `0`, `9`, `10` and `33216`
numbers :
    map decimal (0 ∷ 9 ∷ 10 ∷ 33216 ∷ [])
    ≡ (48 ∷ []) ∷ (57 ∷ []) ∷ (49 ∷ 48 ∷ []) ∷ (51 ∷ 51 ∷ 50 ∷ 49 ∷ 54 ∷ []) ∷ []
unfolding decimal_in decimal
numbers = refl

-- the empty clause: `0`
empty : clause_line [] ≡ 48 ∷ 10 ∷ []
unfolding clause_line
empty = refl

-- the clause of 1 and -3: `1 -3 0`
clause : clause_line (2 ∷ 7 ∷ []) ≡ 49 ∷ 32 ∷ 45 ∷ 51 ∷ 32 ∷ 48 ∷ 10 ∷ []
unfolding decimal_in decimal literal_text clause_line
clause = refl

-- four variables and eight clauses: `p cnf 4 8`
header : header_line 4 8 ≡ 112 ∷ 32 ∷ 99 ∷ 110 ∷ 102 ∷ 32 ∷ 52 ∷ 32 ∷ 56 ∷ 10 ∷ []
unfolding decimal_in decimal two_numbers header_line
header = refl

-- `refused 15 0`
refusal : refusal_line 15 0 ≡ 114 ∷ 101 ∷ 102 ∷ 117 ∷ 115 ∷ 101 ∷ 100 ∷ 32 ∷ 49 ∷ 53 ∷ 32 ∷ 48 ∷ 10 ∷ []
unfolding decimal_in decimal two_numbers refusal_line
refusal = refl
