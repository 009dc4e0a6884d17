-- `packed::word_count` meets its contract. Assumes nothing.
use native.Mathlib.Omega.{arith}
use Rattle.packed.specs.Words.{word_count}
use Rattle.packed.proofs.word_count.Goals as goal

pub returns : goal.returns
unfolding word_count
returns c = omega (arith, c.div_ceil.ensures)
