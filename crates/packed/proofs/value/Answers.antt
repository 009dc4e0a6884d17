-- `packed::value` meets its contract: its test is the bit at the place, by `value-law`. Assumes nothing.
use Prim.Native.Nat.{◌-◌}
use Rattle.packed.proofs.Bits.{value-law}
use Rattle.packed.proofs.value.Goals as goal

pub returns : goal.returns
returns c = value-law c.args.words.now (c.args.i - 1)
