-- `store::form::Formed::clauses` meets its contract. Assumes nothing.
use Rattle.store.proofs.Within.{store-formula}
use Rattle.store.proofs.form.Formed.clauses.Goals as goal

pub invariant_of-result : goal.invariant_of-result
invariant_of-result c = record { formed = store-formula _ c.args.self.formed }
