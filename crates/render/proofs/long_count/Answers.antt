-- `render::long_count` meets its contract. Assumes nothing.
use Rattle.std.proofs.Common.{arith}
use Rattle.render.proofs.DigitLaws.{digits-most, digits-some, counted-more, counted-all}
use Rattle.render.proofs.long_count.Goals as goal

pub overflow_add-n : goal.overflow_add-n
overflow_add-n c = omega (arith, c.loop-rest.invariant.count, digits-most c.args.x, digits-some c.loop-rest.rest)

pub loop-rest-preserved : goal.loop-rest-preserved
loop-rest-preserved c = counted-more c.loop-rest.invariant c.loop-rest-test.true

pub returns : goal.returns
returns c = counted-all c.loop-rest.invariant c.loop-rest-test.false
