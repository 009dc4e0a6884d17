-- `store::form::rows_formed` meets its contract. Assumes nothing.
use Rattle.std.proofs.Common.{sym, ap, ◌∙◌, arith}
use Rattle.lists.specs.Tests.{all_of}
use Rattle.store.specs.Stores.{is_row}
use Rattle.store.proofs.RowLaws.{from_first, row_room, good-here, bad-here, good-end}
use Rattle.store.proofs.form.rows_formed.Goals as goal

pub loop-r-init : goal.loop-r-init
loop-r-init c = let a = c.args in ap (all_of (is_row a.n)) (sym (from_first a.n a.k a.images.now))

pub row-requires : goal.row-requires
row-requires c = let a = c.args in row_room a.n a.k a.images.now c.requires.1 c.loop-r.r (omega arith)

pub returns-then-not-is_row : goal.returns-then-not-is_row
returns-then-not-is_row c =
    let a = c.args in
    sym (c.loop-r.invariant ∙ bad-here a.n a.k a.images.now c.loop-r.r (omega arith) (rw c.row.ensures at (sym c.is_row.ensures ∙ c.if-not-is_row.true)))

pub loop-r-preserved : goal.loop-r-preserved
loop-r-preserved c =
    let a = c.args in
    c.loop-r.invariant ∙ good-here a.n a.k a.images.now c.loop-r.r (omega arith) (rw c.row.ensures at (sym c.is_row.ensures ∙ c.if-not-is_row.false))

pub returns : goal.returns
returns c = let a = c.args in sym (c.loop-r.invariant ∙ good-end a.n a.k a.images.now c.loop-r.r (omega arith))
