-- What the code answers, in the words of document 02, CR 2. Assumes nothing.
use Rattle.std.specs.Prelude.{ℕ, Bool, false, Option, Some, None}
use Rattle.trial.specs.declared.Trial.{Trial}

-- "the variable that decided .. or 0 where none does"
abbrev pub variable_of : Option Trial → ℕ
variable_of None = 0
variable_of (Some found) = found.variable

-- whether it says yes: the row makes the assignment smaller
abbrev pub lowers_of : Option Trial → Bool
lowers_of None = false
lowers_of (Some found) = found.lowers
