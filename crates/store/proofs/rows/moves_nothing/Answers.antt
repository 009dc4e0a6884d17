-- `store::rows::moves_nothing` meets its contract. Assumes nothing.
use Rattle.std.proofs.Common.{sym, ◌∙◌, arith}
use Rattle.store.proofs.Identity.{stays_here, moves-here, stays-end}
use Rattle.store.proofs.rows.moves_nothing.Goals as goal

pub returns-then-image-i : goal.returns-then-image-i
returns-then-image-i c = sym (c.loop-i.invariant ∙ moves-here c.args.row.now c.loop-i.i (omega arith) c.if-image-i.true)

pub loop-i-preserved : goal.loop-i-preserved
loop-i-preserved c = c.loop-i.invariant ∙ stays_here c.args.row.now c.loop-i.i (omega arith) c.if-image-i.false

pub returns : goal.returns
returns c = sym (c.loop-i.invariant ∙ stays-end c.args.row.now c.loop-i.i (omega arith))
