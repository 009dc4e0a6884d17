-- `measure::plain_bytes` meets its contract. Assumes nothing.
use native.Mathlib.Omega.{arith}
use Rattle.store.specs.Literals.{variable_of}
use Rattle.render.proofs.DigitLaws.{digits-below}
use Rattle.measure.proofs.plain_bytes.Goals as goal

pub returns : goal.returns
returns c =
    let a = c.args in
    (omega arith, omega (arith, digits-below 2 a.x (omega arith), digits-below 2 (variable_of a.y) (omega arith)))

pub overflow_add-result : goal.overflow_add-result
overflow_add-result c = omega (arith, (returns c).1)

pub overflow_add-result-2 : goal.overflow_add-result-2
overflow_add-result-2 c = omega (arith, (returns c).1)
