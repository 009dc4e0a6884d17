-- `measure::pair_bytes` meets its contract. Assumes nothing.
use native.Mathlib.Omega.{arith}
use Rattle.measure.proofs.Digits.{pair-digits}
use Rattle.measure.proofs.pair_bytes.Goals as goal

pub returns : goal.returns
returns c =
    let a = c.args in
    (omega (arith, c.plain_bytes.ensures.0, pair-digits a.x a.y), omega (arith, c.plain_bytes.ensures.1))
