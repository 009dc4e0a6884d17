-- `cycles::turned` meets its contract. Assumes nothing.
use mathlib.Core.Path.{ap, ◌∙◌}
use Rattle.store.specs.Literals.{is_negative}
use Rattle.cycles.specs.Cycles.{turns}
use Rattle.cycles.proofs.turned.Goals as goal

pub returns : goal.returns
unfolding turns
returns c = c.is_negative.ensures ∙ ap is_negative c.wide.ensures.0
