-- `store::rows::row` meets its contract. Assumes nothing.
use Rattle.store.proofs.RowLaws.{part-is}
use Rattle.store.proofs.rows.row.Goals as goal

pub returns : goal.returns
returns c = let a = c.args in part-is a.n a.r a.images.now
