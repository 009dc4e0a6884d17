-- Writing into lent memory. Assumes nothing.
use Rattle.std.specs.Prelude.{ℕ, List, ◌++◌, length, drop}

-- a list written over from its start: what is past the front stays
abbrev pub overwritten : List ℕ → List ℕ → List ℕ
overwritten front old = front ++ drop (length front) old
