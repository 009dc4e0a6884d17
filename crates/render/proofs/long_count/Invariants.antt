-- `render::long_count` meets its contract. The invariant: n digits are counted, with those of the rest for the last one. Assumes nothing.
use Rattle.render.proofs.DigitLaws.{Counted}
use Rattle.render.proofs.long_count.Given as goal

abbrev pub invariant-loop-rest : goal.invariant-loop-rest
invariant-loop-rest l = Counted l.x l.n l.rest

abbrev pub decreases-loop-rest : goal.decreases-loop-rest
decreases-loop-rest l = l.rest
