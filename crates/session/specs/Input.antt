-- The program's input (document 01, "Quality figure and program"): "formula text (all before the first line that is just `%`), that line, the names line,
-- value lines". Assumes nothing.
use Rattle.std.specs.Prelude.{ℕ, Bool, cond, List, [], ◌∷◌}
use Rattle.dimacs.specs.Words.{Piece}
use Rattle.opening.specs.Problem.{same_bytes}

-- 15: "input over 65,536 bytes"
abbrev pub max_input : ℕ
max_input = 65536

-- a line that is just `%`
abbrev pub is_divider : Piece → Bool
is_divider line = same_bytes line.bytes (37 ∷ [])

-- the lines from the first on that is just `%`
unfoldable pub from_divider : List Piece → List Piece
from_divider [] = []
from_divider (line ∷ lines) = cond (is_divider line) (line ∷ lines) (from_divider lines)
