-- `render::literal_length` meets its contract. Assumes nothing.
use native.Mathlib.Omega.{arith}
use Rattle.render.proofs.DigitLaws.{digits-most}
use Rattle.render.proofs.LineLaws.{text-length, sign-most}
use Rattle.render.proofs.literal_length.Goals as goal

pub overflow_add-result : goal.overflow_add-result
overflow_add-result c = omega (arith, c.digit_count.ensures, digits-most c.variable.result, sign-most c.is_negative.result)

pub returns : goal.returns
returns c =
    omega (arith, c.digit_count.ensures, text-length c.args.code c.variable.result c.variable.ensures c.is_negative.result c.is_negative.ensures)
