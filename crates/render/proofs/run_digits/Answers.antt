-- `render::run_digits` meets its contract. Assumes nothing.
use native.Mathlib.Omega.{arith}
use Rattle.render.proofs.DigitLaws.{run-below}
use Rattle.render.proofs.run_digits.Goals as goal

pub overflow_sub-result : goal.overflow_sub-result
overflow_sub-result c = omega (arith, run-below c.args.from c.args.count c.requires)

pub returns : goal.returns
returns c = omega (arith, run-below c.args.from c.args.count c.requires)
