-- `render::digit_count` meets its contract. Assumes nothing.
use native.Mathlib.Omega.{arith}
use Rattle.render.proofs.DigitLaws.{digits-most, reached, reached-all}
use Rattle.render.proofs.digit_count.Goals as goal

-- the digits by tests; each sum before the last is a part of it
pub returns : goal.returns
unfolding reached
returns c = reached-all 4 c.args.x c.ranges.x.fits c.if-x-ge100000.false

pub overflow_add-result : goal.overflow_add-result
overflow_add-result c = omega (arith, returns c, digits-most c.args.x)

pub overflow_add-result-2 : goal.overflow_add-result-2
overflow_add-result-2 c = omega (arith, returns c, digits-most c.args.x)

pub overflow_add-result-3 : goal.overflow_add-result-3
overflow_add-result-3 c = omega (arith, returns c, digits-most c.args.x)

pub overflow_add-result-4 : goal.overflow_add-result-4
overflow_add-result-4 c = omega (arith, returns c, digits-most c.args.x)
