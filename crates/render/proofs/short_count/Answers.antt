-- `render::short_count` meets its contract. Assumes nothing.
use native.Mathlib.Omega.{arith}
use Rattle.render.proofs.DigitLaws.{digits-most, reached, reached-all}
use Rattle.render.proofs.short_count.Goals as goal

pub returns : goal.returns
unfolding reached
returns c = reached-all 2 c.args.x (omega arith) c.requires

pub overflow_add-result : goal.overflow_add-result
overflow_add-result c = omega (arith, returns c, digits-most c.args.x)

pub overflow_add-result-2 : goal.overflow_add-result-2
overflow_add-result-2 c = omega (arith, returns c, digits-most c.args.x)
