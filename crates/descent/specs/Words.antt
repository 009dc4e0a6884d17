-- Descent on lent words (document 01, "Assignments, filling in and descent"): what `lexleader/specs/Descent.antt` says of lists of values, said of the
-- words that hold them. Assumes nothing.
use Rattle.std.specs.Prelude.{ℕ, Bool, List}
use Rattle.packed.specs.Words.{bits_of, words_of}
use Rattle.lexleader.specs.Descent.{Ending, settled, spent, descend}
use Rattle.descent.specs.declared.Descended.{Descended}

-- "It ends `settled` with the count of moves .., or `spent`": what a descent answers, and the assignment that it leaves
pub data Outcome : Type 0 where
  settled_after : ℕ → Outcome
  spent_after : ℕ → Outcome

abbrev pub answer_of : Ending → Outcome
answer_of (settled moves a) = settled_after moves
answer_of (spent moves a) = spent_after moves

abbrev pub reached_by : Ending → List Bool
reached_by (settled moves a) = a
reached_by (spent moves a) = a

-- what the code answers
abbrev pub outcome_of : Descended → Outcome
outcome_of (Descended.Settled moves) = settled_after moves
outcome_of (Descended.Spent moves) = spent_after moves

-- the words afterwards
unfoldable pub descended : ℕ → ℕ → List (List ℕ) → List ℕ → List ℕ
descended n limit rows words = words_of (reached_by (descend limit rows (bits_of n words)))
