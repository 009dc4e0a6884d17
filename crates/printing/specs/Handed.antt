-- How much of the output standard output has taken: a count, which no failed write can add to. Assumes nothing.
use Rattle.std.specs.Prelude.{ℕ, ◌+◌, Result, Ok, Err}

-- after a write of so many bytes, where so many were taken before it
abbrev pub handed_after : {E : Type 0} → ℕ → Result ℕ E → Result ℕ E
handed_after handed (Ok count) = Ok (handed + count)
handed_after handed (Err e) = Err e
