-- The rule before CR 1, kept beside the new one to say what the change keeps (proofs/Former.antt): comments stand before the problem line alone, and all words
-- after it count. Assumes nothing.
use Rattle.std.specs.Prelude.{ℕ, List, [], length, Result, Ok, Err}
use Rattle.dimacs.specs.Words.{Piece, words_at}
use Rattle.store.specs.declared.refusal.Refusal.{Refusal}
use Rattle.opening.specs.Problem.{problem_of}
use Rattle.opening.specs.Opening.{opened_after}
use Rattle.opening.specs.declared.Sizes.{Sizes}
use Rattle.opening.specs.declared.Problem.{Problem}

abbrev pub all_words_after : Result Problem Refusal → List ℕ → List Piece
all_words_after (Ok problem) text = words_at text problem.end
all_words_after (Err r) text = []

unfoldable pub former_body_of : List ℕ → List Piece
former_body_of text = all_words_after (problem_of text) text

unfoldable pub formerly_opened_by : List ℕ → ℕ → ℕ → ℕ → Result Sizes Refusal
formerly_opened_by text literals ends keys = opened_after (problem_of text) (former_body_of text) (length text) literals ends keys
