-- The lines of a text. A line runs up to a line feed or the end, and "a last line feed starts no further line" (document 01, "Quality figure
-- and program"). Assumes nothing.
use Rattle.std.specs.Prelude.{ℕ, ◌+◌, Bool, true, not, List, [], ◌∷◌, drop, eqb}
use Rattle.dimacs.specs.Words.{run, Piece, push_if}

abbrev pub is_line_feed : ℕ → Bool
is_line_feed b = eqb b 10

abbrev pub is_line_byte : ℕ → Bool
is_line_byte b = not (is_line_feed b)

-- the lines of s, whose first byte has the place `at`: a line starts at each byte that stands first or after a line feed, which `fresh` says
unfoldable pub lines_from : Bool → ℕ → List ℕ → List Piece
lines_from fresh at [] = []
lines_from fresh at (b ∷ rest) =
    push_if fresh (record { place = at; bytes = run is_line_byte (b ∷ rest) }) (lines_from (is_line_feed b) (at + 1) rest)

-- the lines of a text from a place on at which a line starts
abbrev pub lines_at : List ℕ → ℕ → List Piece
lines_at text at = lines_from true at (drop at text)
