-- `render::put_number` meets its contract. The invariant: the digits of y are still to be written, before k. Assumes nothing.
use Rattle.render.proofs.DigitLaws.{Left}
use Rattle.render.proofs.put_number.Given as goal

abbrev pub invariant-loop-y : goal.invariant-loop-y
invariant-loop-y l = Left l.x l.at l.initial.out l.out l.k l.y

abbrev pub decreases-loop-y : goal.decreases-loop-y
decreases-loop-y l = l.y
