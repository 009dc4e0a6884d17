-- `render::clause_length` meets its contract. Assumes nothing.
use Rattle.std.proofs.Common.{arith}
use Rattle.std.proofs.lemmas.List.{length-map}
use Rattle.render.proofs.LineLaws.{code-at, measured-more, measured-fits, measured-all}
use Rattle.render.proofs.clause_length.Goals as goal

pub loop-code-preserved : goal.loop-code-preserved
loop-code-preserved g c = measured-more c.loop-code.invariant (code-at _ _ _ c.loop-code-test.true c.code-item.is c.wide.ensures) c.literal_length.ensures

pub overflow_add-length-in-loop-code : goal.overflow_add-length-in-loop-code
overflow_add-length-in-loop-code g c =
    omega (arith, measured-fits c.loop-code.invariant (code-at _ _ _ c.loop-code-test.true c.code-item.is c.wide.ensures) c.literal_length.ensures)

pub overflow_add-length : goal.overflow_add-length
overflow_add-length g c =
    omega (arith, measured-fits c.loop-code.invariant (code-at _ _ _ c.loop-code-test.true c.code-item.is c.wide.ensures) c.literal_length.ensures)

pub returns : goal.returns
returns g c = measured-all c.loop-code.invariant (rw length-map (omega arith))
