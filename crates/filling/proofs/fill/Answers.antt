-- `filling::fill` meets its contract: the values of the assignment and those of all auxiliaries are those of filling in. Assumes nothing.
use mathlib.Core.Path.{ap, ◌∙◌}
use native.Mathlib.Omega.{arith}
use lib.Seq.{length-take-le}
use Rattle.packed.specs.Words.{word_count}
use Rattle.packed.proofs.Form.{form-room}
use Rattle.packed.proofs.Writing.{room_for}
use Rattle.store.specs.Held.{held_by}
use Rattle.lexleader.specs.Made.{all_auxiliaries, made_variables}
use Rattle.valuation.proofs.TableLaws.{length-in}
use Rattle.filling.specs.Written.{filled_words}
use Rattle.filling.proofs.Runs.{length-filled, filled-holds, plain-room, made-room, made-bounded}
use Rattle.filling.proofs.fill.Goals as goal

pub tabulate-requires : goal.tabulate-requires
tabulate-requires c =
    (form-room c.args.rows.counts.variables c.args.a.now c.requires.0, omega (arith, c.args.rows.formed.small))

pub write-plain-requires : goal.write-plain-requires
write-plain-requires c =
    let f = c.args.rows.formed in
    (f.small, c.tabulate.ensures.table, plain-room f _ c.requires.1)

pub fill_rows-all-requires : goal.fill_rows-all-requires
fill_rows-all-requires c =
    let f = c.args.rows.formed in
    let size = length-in c.args.rows.counts.variables c.tabulate.new.values in (
      c.tabulate.ensures.table,
      length-take-le _ _ (omega (arith, f.small)),
      room_for c.write-plain.ensures (all_auxiliaries (held_by c.args.rows)) (omega (arith, size, made-room f _ c.requires.1)) (omega (arith, size, made-bounded f _ c.requires.1)),
    )

pub finish-requires : goal.finish-requires
unfolding made_variables
finish-requires c =
    let a = c.args in
    let f = a.rows.formed in
    let size = length-filled a.rows.counts.variables (held_by a.rows) a.a.now in
    room_for (filled-holds a.rows.counts.variables _ a.a.now _ c.tabulate.ensures.bits c.write-plain.ensures c.fill_rows-all.ensures) 0
    (omega (arith, size, made-room f _ c.requires.1)) (omega (arith, size, made-bounded f _ c.requires.1))

pub returns : goal.returns
unfolding filled_words
returns c =
    let a = c.args in
    let h = filled-holds a.rows.counts.variables _ a.a.now _ c.tabulate.ensures.bits c.write-plain.ensures c.fill_rows-all.ensures in
    let size = length-filled a.rows.counts.variables (held_by a.rows) a.a.now in
    record {
      words = c.finish.ensures.words ∙ ap word_count (h.count ∙ size);
      buffer = c.finish.ensures.buffer _ _ h ∙ rw size;
    }
