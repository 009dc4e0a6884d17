-- `store::rows::Rows::row` meets its contract. Assumes nothing.
use Rattle.store.proofs.Formed.{formed-row}
use Rattle.store.proofs.rows.Rows.row.Goals as goal

pub invariant_of-result : goal.invariant_of-result
invariant_of-result c = record { formed = rw c.row.ensures (formed-row _ _ _ c.args.self.formed _ c.requires) }
