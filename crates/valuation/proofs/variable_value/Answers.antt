-- `valuation::variable_value` meets its contract. Assumes nothing.
use mathlib.Core.Path.{◌≡◌, ◌∙◌, ap}
use Prim.Native.Nat.{◌*◌, ◌/◌}
use native.Mathlib.Omega.{arith}
use Rattle.packed.specs.Words.{bits_of}
use Rattle.packed.specs.Order.{value_of}
use Rattle.packed.proofs.Bits.{value-is}
use Rattle.valuation.proofs.Values.{positive-value}
use Rattle.valuation.proofs.variable_value.Goals as goal

pub returns : goal.returns
returns c n h =
    let i = c.args.variable in
    let v = value_of (bits_of n c.args.a.now) in
    let half : i ≡ 2 * i / 2 = omega arith in
    positive-value v (2 * i) _ (c.value.ensures ∙ value-is n c.args.a.now i c.requires.0 h ∙ ap v half) (λ odd. omega arith)
