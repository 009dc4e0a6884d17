-- The head of a text (document 01, "Plain formula"): "zero or more lines whose first byte is `c`, then the problem line `p cnf n m` (that byte `p`
-- first, four words, n and m not negative)". Assumes nothing.
use Rattle.std.specs.Prelude.{ℕ, ◌+◌, Bool, true, false, cond, not, ◌&&◌, List, [], ◌∷◌, length, get_or, eqb, leb, Option, Some, None, Result, Ok, Err}
use Rattle.dimacs.specs.Words.{Piece, words_at}
use Rattle.dimacs.specs.Lines.{lines_at}
use Rattle.dimacs.specs.Numbers.{Numeral, numeral_of}
use Rattle.comments.specs.Comments.{after_comments}
use Rattle.store.specs.Stores.{max_variables, max_clauses}
use Rattle.store.specs.declared.refusal.Refusal.{Refusal}
use Rattle.opening.specs.declared.Sizes.{Sizes}
use Rattle.opening.specs.declared.Problem.{Problem}

-- the same bytes
unfoldable pub same_bytes : List ℕ → List ℕ → Bool
same_bytes [] [] = true
same_bytes [] (y ∷ b) = false
same_bytes (x ∷ a) [] = false
same_bytes (x ∷ a) (y ∷ b) = eqb x y && same_bytes a b

-- n and m, both numbers that are not negative
abbrev pub sizes_if : Numeral → Numeral → Option Sizes
sizes_if (Numeral.Is n) (Numeral.Is m) = cond (not n.negative && not m.negative) (Some (record { variables = n.size; clauses = m.size })) None
sizes_if (Numeral.Is n) Numeral.Not = None
sizes_if Numeral.Not m = None

-- the words `p`, `cnf`, n, m, and no others
unfoldable pub four_words : List Piece → Option Sizes
four_words [] = None
four_words (p ∷ []) = None
four_words (p ∷ cnf ∷ []) = None
four_words (p ∷ cnf ∷ n ∷ []) = None
four_words (p ∷ cnf ∷ n ∷ m ∷ []) =
    cond (same_bytes p.bytes (112 ∷ []) && same_bytes cnf.bytes (99 ∷ 110 ∷ 102 ∷ [])) (sizes_if (numeral_of n.bytes) (numeral_of m.bytes)) None
four_words (p ∷ cnf ∷ n ∷ m ∷ more ∷ words) = None

-- a problem line: its first byte is `p`
unfoldable pub sizes_of : List ℕ → Option Sizes
sizes_of line = cond (eqb (get_or line 0 0) 112) (four_words (words_at line 0)) None

-- 2: "n or m over its limit; problem line"
abbrev pub within_limits : Option Sizes → ℕ → ℕ → Result Problem Refusal
within_limits (Some sizes) place end =
    cond (leb sizes.variables max_variables && leb sizes.clauses max_clauses) (Ok (record { sizes = sizes; end = end })) (Err (Refusal.SizeOverLimit place))
within_limits None place end = Err (Refusal.NoProblemLine place)

-- 1: "no problem line of the form above; first line that doesn't start with `c`, or the text's length"
unfoldable pub problem_in : ℕ → List Piece → Result Problem Refusal
problem_in end [] = Err (Refusal.NoProblemLine end)
problem_in end (line ∷ lines) = within_limits (sizes_of line.bytes) line.place (line.place + length line.bytes)

unfoldable pub problem_of : List ℕ → Result Problem Refusal
problem_of text = problem_in (length text) (after_comments (lines_at text 0))
