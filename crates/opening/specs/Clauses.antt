-- The clauses of a text (document 01, "Plain formula"): "then clauses: literals, closed by `0`. .. Exactly m clauses follow." Assumes nothing.
use Rattle.std.specs.Prelude.{ℕ, ◌+◌, cond, not, List, [], ◌∷◌, ◌++◌, eqb, ltb, Result, Ok, Err}
use Rattle.dimacs.specs.Words.{Piece}
use Rattle.dimacs.specs.Numbers.{numeral_of}
use Rattle.store.specs.Literals.{variable_of}
use Rattle.store.specs.Numerals.{is_numeral, code_in}
use Rattle.store.specs.Stores.{max_literals}
use Rattle.store.specs.declared.refusal.Refusal.{Refusal}

-- The words after the problem line, of which `closed` clauses and `count` literals came before: "the first fault from the left counts, and at one word
-- the lower number, but 6 goes before 3, 4 and 5". `end` is the text's length.
unfoldable pub scan_from : ℕ → ℕ → ℕ → ℕ → ℕ → List Piece → Result ℕ Refusal
scan_from end n m closed count [] = cond (eqb closed m) (Ok count) (Err (Refusal.ClauseCount end))
scan_from end n m closed count (w ∷ words) =
    cond (eqb closed m) (Err (Refusal.ClauseCount w.place))
    (cond (not (is_numeral (numeral_of w.bytes))) (Err (Refusal.NotNumber w.place))
    (cond (eqb (code_in w) 0) (scan_from end n m (closed + 1) count words)
    (cond (ltb n (variable_of (code_in w))) (Err (Refusal.LiteralBeyond w.place))
    (cond (eqb count max_literals) (Err (Refusal.TooManyLiterals w.place))
    (scan_from end n m closed (count + 1) words)))))

-- the literals in order, and each clause's end: the count of literals up to its closing 0
unfoldable pub literals_in : List Piece → List ℕ
literals_in [] = []
literals_in (w ∷ words) = cond (eqb (code_in w) 0) (literals_in words) (code_in w ∷ literals_in words)

unfoldable pub ends_from : ℕ → List Piece → List ℕ
ends_from count [] = []
ends_from count (w ∷ words) = cond (eqb (code_in w) 0) (count ∷ ends_from count words) (ends_from (count + 1) words)

-- the clauses themselves, where `begun` are the literals of the clause that is not closed yet
unfoldable pub clauses_from : List ℕ → List Piece → List (List ℕ)
clauses_from begun [] = []
clauses_from begun (w ∷ words) = cond (eqb (code_in w) 0) (begun ∷ clauses_from [] words) (clauses_from (begun ++ (code_in w ∷ [])) words)
