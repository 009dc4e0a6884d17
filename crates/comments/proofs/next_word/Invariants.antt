-- `comments::next_word` meets its contract. Each turn passes a comment and the blanks after it. Assumes nothing.
use Rattle.std.proofs.Common.{◌-◌, length}
use Rattle.comments.proofs.Walk.{Reached}
use Rattle.comments.proofs.next_word.Given as goal

abbrev pub invariant-loop-i : goal.invariant-loop-i
invariant-loop-i l = Reached l.text l.at l.i

abbrev pub decreases-loop-i : goal.decreases-loop-i
decreases-loop-i l = length l.text - l.i
