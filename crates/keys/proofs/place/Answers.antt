-- `keys::place` meets its contract: the code of a literal is at least 2, and at most 1,025. Assumes nothing.
use Rattle.std.proofs.Common.{refl, arith}
use Rattle.store.specs.Stores.{max_variables}
use Rattle.store.proofs.FormLaws.{literal-low, literal-high}
use Rattle.keys.proofs.place.Goals as goal

pub overflow_sub-result : goal.overflow_sub-result
overflow_sub-result c = omega (arith, literal-low max_variables c.args.code c.requires)

pub returns : goal.returns
returns c = (refl, omega (arith, literal-high max_variables c.args.code c.requires))
