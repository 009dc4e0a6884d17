-- `store::clauses::Clauses::clause` meets its contract. Assumes nothing.
use Rattle.store.proofs.clauses.Clauses.clause.Goals as goal

pub clause-requires : goal.clause-requires
clause-requires c = (c.args.self.formed.clauses, c.requires)
