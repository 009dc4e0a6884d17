-- `filling::fill_rows` meets its contract. The invariant: the values left to take are those of row r and of the rows after it. Assumes nothing.
use Rattle.packed.proofs.Runs.{WriterRun}
use Rattle.store.specs.Held.{held_by}
use Rattle.store.specs.Stores.{rows_from}
use Rattle.lexleader.specs.Made.{settings}
use Rattle.valuation.specs.Tables.{bits_in}
use Rattle.filling.proofs.fill_rows.Given as goal

abbrev pub invariant-loop-r : goal.invariant-loop-r
invariant-loop-r l =
    let bits = bits_in l.rows.counts.variables l.values in
    WriterRun l.initial.taken l.initial.out (settings (held_by l.rows) bits) (settings (rows_from l.rows.counts.variables l.rows.counts.rows l.rows.images.now l.r) bits) l.taken l.out
