-- `render::header_length` meets its contract. Assumes nothing.
use Rattle.render.proofs.DigitLaws.{digits-most}
use Rattle.render.proofs.LineLaws.{length-header}
use native.Mathlib.Omega.{arith}
use Rattle.render.proofs.header_length.Goals as goal

pub overflow_add-result : goal.overflow_add-result
overflow_add-result c = omega (arith, digits-most c.args.variables, digits-most c.args.clauses)

pub overflow_add-result-2 : goal.overflow_add-result-2
overflow_add-result-2 c = omega (arith, digits-most c.args.variables, digits-most c.args.clauses)

pub returns : goal.returns
returns c = omega (arith, length-header c.args.variables c.args.clauses)
