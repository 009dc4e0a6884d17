-- `program::formed` meets its contract. Assumes nothing.
use Rattle.store.proofs.Formed.{formed-rows}
use Rattle.program.proofs.formed.Goals as goal

pub invariant_of-result : goal.invariant_of-result
invariant_of-result c = record { formed = formed-rows _ c.requires }
