-- `lexleader::counting::pair_count` meets its contract. Assumes nothing.
use native.Mathlib.Omega.{arith}
use Rattle.lexleader.proofs.Marked.{unmarked-step, unmarked-end}
use Rattle.lexleader.proofs.counting.pair_count.Goals as goal

pub overflow_add-count : goal.overflow_add-count
overflow_add-count c = omega (arith, unmarked-step c.args.marks.now c.loop-mark.mark-index (omega arith))

pub loop-mark-preserved : goal.loop-mark-preserved
loop-mark-preserved c =
    let step = unmarked-step c.args.marks.now c.loop-mark.mark-index (omega arith) in
    (omega (arith, step), omega (arith, step))

pub returns : goal.returns
returns c = omega (arith, unmarked-end c.args.marks.now c.loop-mark.mark-index (omega arith))
