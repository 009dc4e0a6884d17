-- `numbers::numbers` meets its contract: the table of the code is the list of the definition. Assumes nothing.
use mathlib.Core.Path.{refl}
use Rattle.numbers.specs.Numbers.{numbers}
use Rattle.numbers.proofs.numbers.Goals as goal

pub returns : goal.returns
unfolding numbers
returns c = refl
