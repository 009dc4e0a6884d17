-- Comment lines (document 01, "Plain formula"; document 02, CR 1). Assumes nothing.
use Rattle.std.specs.Prelude.{ℕ, ◌+◌, ◌-◌, ◌≤◌, ◌≡◌, Bool, true, cond, ◌&&◌, List, [], ◌∷◌, ◌++◌, length, drop, get_or, eqb}
use Rattle.dimacs.specs.Words.{is_blank, run, run_end, Piece, words_from}
use Rattle.dimacs.specs.Lines.{is_line_byte, lines_at}

-- "lines whose first byte is `c`"
abbrev pub is_comment : Piece → Bool
is_comment line = eqb (get_or line.bytes 0 0) 99

-- the lines from the first on that is no comment
unfoldable pub after_comments : List Piece → List Piece
after_comments [] = []
after_comments (line ∷ lines) = cond (is_comment line) (after_comments lines) (line ∷ lines)

-- CR 1: "After the problem line, a line whose first byte is `c` is skipped, also inside a clause that spans lines": the words of these lines but for
-- the comments among them, each with its place in the text
unfoldable pub words_in : List Piece → List Piece
words_in [] = []
words_in (line ∷ lines) = cond (is_comment line) (words_in lines) (words_from true line.place line.bytes ++ words_in lines)

-- a comment starts at the place: a `c` stands there, after a line feed
unfoldable pub starts_comment : List ℕ → ℕ → Bool
starts_comment text at = eqb (get_or text at 0) 99 && eqb (get_or text (at - 1) 0) 10

-- ---- from a place inside a line that is no comment

-- the words at and after the place: those of the rest of its line, then those of the lines after it
unfoldable pub words_past : List ℕ → ℕ → List Piece
words_past text at = words_from true at (run is_line_byte (drop at text)) ++ words_in (lines_at text (run_end is_line_byte text at + 1))

-- no word goes on there: a blank stands at the place, or the text ends
abbrev pub Between : List ℕ → ℕ → Type 0
Between text at = (at ≤ length text) × (is_blank (get_or text at 32) ≡ true)

-- where the first of some words stands, or the end
unfoldable pub first_place : ℕ → List Piece → ℕ
first_place end [] = end
first_place end (w ∷ words) = w.place
