-- `permutation::not_number` meets its contract. The invariant: the line's first word that is no number is the first such word from `at` on.
-- Assumes nothing.
use mathlib.Core.Path.{◌≡◌}
use Prim.Native.Nat.{◌-◌}
use lib.ListN.{length}
use Rattle.dimacs.specs.Words.{words_at}
use Rattle.permutation.specs.Lines.{not_number}
use Rattle.permutation.proofs.not_number.Given as goal

abbrev pub invariant-loop-at : goal.invariant-loop-at
invariant-loop-at l = not_number (words_at l.line 0) ≡ not_number (words_at l.line l.at)

abbrev pub decreases-loop-at : goal.decreases-loop-at
decreases-loop-at l = length l.line - l.at
