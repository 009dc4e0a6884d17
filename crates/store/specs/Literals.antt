-- Literals as codes: 2·i is the variable i, 2·i + 1 its negation ("Literal i means variable i is true, -i that it is false", document 01).
-- Assumes nothing.
use Rattle.std.specs.Prelude.{ℕ, ◌+◌, ◌-◌, ◌*◌, ◌/◌, ◌%◌, Bool, cond, ◌&&◌, eqb, leb}

abbrev pub code_of : ℕ → Bool → ℕ
code_of variable negative = 2 * variable + cond negative 1 0

abbrev pub variable_of : ℕ → ℕ
variable_of code = code / 2

abbrev pub is_negative : ℕ → Bool
is_negative code = eqb (code % 2) 1

abbrev pub opposite_of : ℕ → ℕ
opposite_of code = cond (is_negative code) (code - 1) (code + 1)

-- a literal of one of the variables 1..n
unfoldable pub is_literal : ℕ → ℕ → Bool
is_literal n code = leb 1 (variable_of code) && leb (variable_of code) n
