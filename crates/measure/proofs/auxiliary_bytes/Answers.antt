-- `measure::auxiliary_bytes` meets its contract. Assumes nothing.
use mathlib.Core.Path.{◌≡◌, sym, ap}
use Prim.Native.Nat.{◌+◌, ◌*◌}
use native.Mathlib.Omega.{arith}
use Rattle.render.proofs.DigitLaws.{run-most}
use Rattle.measure.specs.Shares.{auxiliary_bytes}
use Rattle.measure.proofs.Digits.{auxiliary-digits}
use Rattle.measure.proofs.auxiliary_bytes.Goals as goal
use Rattle.measure.proofs.auxiliary_bytes.Goals.{After-run_digits}

pub returns-then-count-eq0 : goal.returns-then-count-eq0
unfolding auxiliary_bytes
returns-then-count-eq0 c = sym (ap (auxiliary_bytes _) c.if-count-eq0.true)

pub overflow_mul-result : goal.overflow_mul-result
overflow_mul-result c = let a = c.args in omega (arith, run-most a.e a.count)

pub overflow_add-result : goal.overflow_add-result
overflow_add-result c = let a = c.args in omega (arith, run-most a.e a.count)

-- what was counted, by the digits
told : (c : After-run_digits) → let a = c.args in
    auxiliary_bytes a.e a.count + c.digit_count-first.result + 3 * c.digit_count-last.result + 7 ≡ 9 * c.run_digits.result + 15 * a.count
told c = let a = c.args in omega (arith, auxiliary-digits a.e a.count (omega arith))

pub overflow_sub-result : goal.overflow_sub-result
overflow_sub-result c = omega (arith, told c)

pub overflow_mul-result-3 : goal.overflow_mul-result-3
overflow_mul-result-3 c = let a = c.args in omega (arith, told c, run-most a.e a.count)

pub overflow_sub-result-2 : goal.overflow_sub-result-2
overflow_sub-result-2 c = omega (arith, told c)

pub overflow_sub-result-3 : goal.overflow_sub-result-3
overflow_sub-result-3 c = omega (arith, told c)

pub returns : goal.returns
returns c = omega (arith, told c)
