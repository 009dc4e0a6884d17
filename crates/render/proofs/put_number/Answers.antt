-- `render::put_number` meets its contract. Assumes nothing.
use Rattle.std.proofs.Common.{arith}
use Rattle.render.proofs.DigitLaws.{digits-some, left-more, left-last}
use Rattle.render.proofs.put_number.Goals as goal

pub overflow_sub-k : goal.overflow_sub-k
overflow_sub-k c = omega (arith, digits-some c.loop-y.y)

pub bounds-out-k : goal.bounds-out-k
bounds-out-k c = omega (arith, digits-some c.loop-y.y)

pub loop-y-preserved : goal.loop-y-preserved
loop-y-preserved c = left-more c.loop-y.invariant c.loop-y-test.true

pub bounds-out-at : goal.bounds-out-at
bounds-out-at c = omega (arith, digits-some c.loop-y.y)

pub returns-clause-bytes : goal.returns-clause-bytes
returns-clause-bytes c = left-last c.loop-y.invariant c.loop-y-test.false
