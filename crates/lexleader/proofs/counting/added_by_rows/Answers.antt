-- `lexleader::counting::added_by_rows` meets its contract. Assumes nothing.
use native.Mathlib.Omega.{arith}
use Rattle.store.proofs.RowParts.{part-size}
use Rattle.lexleader.proofs.Left.{summed-none, summed-more, summed-all}
use Rattle.lexleader.proofs.counting.added_by_rows.Goals as goal

pub loop-r-init : goal.loop-r-init
loop-r-init c = summed-none _ _ _

pub added_by-more-requires : goal.added_by-more-requires
added_by-more-requires c =
    omega (arith, part-size c.args.rows.formed c.loop-r.r (omega arith) _ c.row.ensures)

pub overflow_add-auxiliaries : goal.overflow_add-auxiliaries
overflow_add-auxiliaries c =
    let more = summed-more c.args.rows.counts.variables c.args.rows.counts.rows c.args.rows.images.now c.args.rows.formed c.loop-r.invariant (omega arith) c.row.ensures c.added_by-more.ensures.added in
    omega (arith, more.few-auxiliaries, c.args.rows.formed.rows_fit)

pub overflow_add-clauses : goal.overflow_add-clauses
overflow_add-clauses c =
    let more = summed-more c.args.rows.counts.variables c.args.rows.counts.rows c.args.rows.images.now c.args.rows.formed c.loop-r.invariant (omega arith) c.row.ensures c.added_by-more.ensures.added in
    omega (arith, more.few-clauses, c.args.rows.formed.rows_fit)

pub loop-r-preserved : goal.loop-r-preserved
loop-r-preserved c =
    summed-more c.args.rows.counts.variables c.args.rows.counts.rows c.args.rows.images.now c.args.rows.formed c.loop-r.invariant (omega arith) c.row.ensures c.added_by-more.ensures.added

pub returns : goal.returns
returns c =
    let all = summed-all c.args.rows.counts.variables c.args.rows.counts.rows c.args.rows.images.now c.loop-r.invariant (omega arith) in
    (all.0, all.1, omega (arith, c.args.rows.formed.rows_fit), omega (arith, c.args.rows.formed.rows_fit))
