-- `cycles::sent_to` meets its contract. Assumes nothing.
use mathlib.Core.Path.{ap, ◌∙◌}
use Rattle.store.specs.Literals.{variable_of}
use Rattle.cycles.specs.Cycles.{sent_to}
use Rattle.cycles.proofs.sent_to.Goals as goal

pub returns : goal.returns
unfolding sent_to
returns c = c.variable.ensures ∙ ap variable_of c.wide.ensures.0
