-- `comments::first_line` meets its contract. The invariant: the first line that is no comment is among those from `at` on. Assumes nothing.
use mathlib.Core.Path.{◌≡◌}
use Prim.Native.Nat.{◌-◌}
use lib.ListN.{length}
use Rattle.dimacs.specs.Lines.{lines_at}
use Rattle.comments.specs.Comments.{after_comments}
use Rattle.comments.proofs.first_line.Given as goal

abbrev pub invariant-loop-at : goal.invariant-loop-at
invariant-loop-at l = after_comments (lines_at l.text 0) ≡ after_comments (lines_at l.text l.at)

abbrev pub decreases-loop-at : goal.decreases-loop-at
decreases-loop-at l = length l.text - l.at
