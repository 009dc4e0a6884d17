-- `packed::is_assignment` meets its contract: each of its three answers is a law of proofs/Form.antt. Assumes nothing.
use mathlib.Core.Path.{sym, ◌∙◌}
use borrow.Author.Tests.{ne_eqb}
use Rattle.packed.proofs.Form.{form-whole, form-ill, form-last}
use Rattle.packed.proofs.is_assignment.Goals as goal

pub returns-then-r-eq0 : goal.returns-then-r-eq0
returns-then-r-eq0 c = form-whole c.args.n c.args.words.now c.if-r-eq0.true

pub returns-then-words-k : goal.returns-then-words-k
returns-then-words-k c = form-last c.args.n c.args.words.now c.if-r-eq0.false c.if-words-k.true

pub returns-else-words-k : goal.returns-else-words-k
returns-else-words-k c = ne_eqb _ _ c.if-words-k.false ∙ sym (form-ill c.args.n c.args.words.now c.if-r-eq0.false c.if-words-k.false)
