-- The made formula's text (document 01, "Made formula"). Assumes nothing.
use Rattle.std.specs.Prelude.{ℕ, ◌+◌, ◌-◌, ◌*◌, cond, List, [], ◌∷◌, ◌++◌, length, get_or, eqb, leb, ltb}
use Rattle.store.specs.Refusals.{Said, done, refused}
use Rattle.store.specs.Stores.{Store, max_literals}
use Rattle.lexleader.specs.Store.{made_of, variables_of, clauses_of}
use Rattle.render.specs.Text.{clause_line, header_line}

-- the header line, and the line of clause q, from 1
unfoldable pub header_of : Store → List ℕ
header_of s = header_line (variables_of s) (clauses_of s)

unfoldable pub line_of : Store → ℕ → List ℕ
line_of s q = clause_line (get_or (made_of s) (q - 1) [])

-- the whole text: "the plain formula followed by the documented clauses"
unfoldable pub lines_of : List (List ℕ) → List ℕ
lines_of [] = []
lines_of (clause ∷ clauses) = clause_line clause ++ lines_of clauses

unfoldable pub text_of : Store → List ℕ
text_of s = header_of s ++ lines_of (made_of s)

-- no header and no line of a well-formed store's made formula is longer (`header-most`, `line-longest`, proofs/Bounds.antt): a literal has at most a sign, five
-- digits and the space after it
abbrev pub max_header : ℕ
max_header = 19

abbrev pub max_line : ℕ
max_line = 7 * max_literals + 2

-- 23: "an output slice too short (place: the length needed)"; a line that fits is written, "returning its byte length"
unfoldable pub written_if : List ℕ → ℕ → Said ℕ
written_if line room = cond (leb (length line) room) (done (length line)) (refused 23 (length line))

-- the header, and clause q: 13, "clause number 0 or above M", before 23
unfoldable pub header_by : Store → ℕ → Said ℕ
header_by s room = written_if (header_of s) room

unfoldable pub clause_by : Store → ℕ → ℕ → Said ℕ
clause_by s q room = cond (eqb q 0) (refused 13 0) (cond (ltb (clauses_of s) q) (refused 13 0) (written_if (line_of s q) room))

-- one of the clauses that the rows add, by its number among these, from 0
unfoldable pub added_by : List (List ℕ) → ℕ → ℕ → Said ℕ
added_by clauses c room = cond (ltb c (length clauses)) (written_if (clause_line (get_or clauses c [])) room) (refused 13 0)
