-- `measure::word_bytes` meets its contract. Assumes nothing.
use native.Mathlib.Omega.{arith}
use Rattle.store.specs.Literals.{variable_of}
use Rattle.render.proofs.DigitLaws.{digits-below}
use Rattle.measure.proofs.Words.{word-digits}
use Rattle.measure.proofs.word_bytes.Goals as goal

pub returns : goal.returns
returns c =
    let a = c.args in
    let few = digits-below 2 (variable_of a.code) (omega arith) in
    (omega (arith, word-digits a.code), omega (arith, few))

pub overflow_add-result : goal.overflow_add-result
overflow_add-result c = omega (arith, (returns c).1)

pub overflow_add-result-2 : goal.overflow_add-result-2
overflow_add-result-2 c = omega (arith, (returns c).1)
