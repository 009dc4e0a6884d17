-- `store::form::Formed::new` meets its contract. Assumes nothing.
use Rattle.std.proofs.Common.{sym, ◌∙◌}
use Rattle.store.proofs.Formed.{formed-rows}
use Rattle.store.proofs.form.Formed.new.Goals as goal

pub invariant_of-result : goal.invariant_of-result
invariant_of-result c = record { formed = formed-rows _ (sym c.is_formed.ensures ∙ c.if-not-is_formed.false) }
