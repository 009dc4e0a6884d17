-- `store::form::is_literal` meets its contract. Assumes nothing.
use Rattle.std.proofs.Common.{arith}
use Rattle.store.proofs.FormLaws.{literal-below}
use Rattle.store.proofs.form.is_literal.Goals as goal

pub returns : goal.returns
returns c = literal-below _ _ (omega arith) c.requires
