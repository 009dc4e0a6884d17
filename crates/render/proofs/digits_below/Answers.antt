-- `render::digits_below` meets its contract. Assumes nothing.
use Rattle.std.proofs.Common.{arith}
use Rattle.render.specs.Digits.{digits_below}
use Rattle.render.proofs.digits_below.Goals as goal

pub returns : goal.returns
unfolding digits_below
returns c = omega arith
