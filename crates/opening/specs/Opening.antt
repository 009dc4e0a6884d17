-- Opening a text (document 01, refusals 1 to 6, then 23; document 02, CR 1 and CR 5). Assumes nothing.
use Rattle.std.specs.Prelude.{ℕ, ◌+◌, cond, not, List, [], length, leb, Result, Ok, Err}
use Rattle.lists.specs.Writing.{overwritten}
use Rattle.dimacs.specs.Words.{Piece}
use Rattle.dimacs.specs.Lines.{lines_at}
use Rattle.comments.specs.Comments.{words_in}
use Rattle.store.specs.declared.refusal.Refusal.{Refusal}
use Rattle.opening.specs.Problem.{problem_of}
use Rattle.opening.specs.Clauses.{scan_from, clauses_from}
use Rattle.opening.specs.declared.Sizes.{Sizes}
use Rattle.opening.specs.declared.Problem.{Problem}

-- the words of the lines after the problem line, which ends there, that are no comments
abbrev pub words_after : Result Problem Refusal → List ℕ → List Piece
words_after (Ok problem) text = words_in (lines_at text (problem.end + 1))
words_after (Err r) text = []

unfoldable pub body_of : List ℕ → List Piece
body_of text = words_after (problem_of text) text

-- "23. An output slice too short (place: the length needed), tried last; opening tries literals before ends", and "also needs the keys slice, tried last under 23" (CR 5)
abbrev pub opened_if : Result ℕ Refusal → Sizes → ℕ → ℕ → ℕ → Result Sizes Refusal
opened_if (Ok count) sizes literals ends keys =
    cond (not (leb count literals)) (Err (Refusal.TooShort count))
    (cond (not (leb sizes.clauses ends)) (Err (Refusal.TooShort sizes.clauses))
    (cond (not (leb sizes.clauses keys)) (Err (Refusal.TooShort sizes.clauses))
    (Ok sizes)))
opened_if (Err r) sizes literals ends keys = Err r

-- by these words after the problem line, in a text of this length
abbrev pub opened_after : Result Problem Refusal → List Piece → ℕ → ℕ → ℕ → ℕ → Result Sizes Refusal
opened_after (Ok problem) words whole literals ends keys =
    opened_if (scan_from whole problem.sizes.variables problem.sizes.clauses 0 0 words) problem.sizes literals ends keys
opened_after (Err r) words whole literals ends keys = Err r

-- what opening a text answers where the slices of literals, ends and keys have these lengths
unfoldable pub opened_by : List ℕ → ℕ → ℕ → ℕ → Result Sizes Refusal
opened_by text literals ends keys = opened_after (problem_of text) (body_of text) (length text) literals ends keys

-- a slice afterwards: written over where the text was opened, as it was where it was refused
abbrev pub written : Result Sizes Refusal → List ℕ → List ℕ → List ℕ
written (Ok sizes) front old = overwritten front old
written (Err r) front old = old

-- the plain formula of a text
unfoldable pub formula_of : List ℕ → List (List ℕ)
formula_of text = clauses_from [] (body_of text)
