-- `store::form::Formed::clause` meets its contract. Assumes nothing.
use Rattle.store.proofs.Formed.{formed, formed-clauses}
use Rattle.store.proofs.form.Formed.clause.Goals as goal

pub clause-requires : goal.clause-requires
clause-requires c = (formed-clauses _ (formed _ c.args.self.formed), c.requires)
