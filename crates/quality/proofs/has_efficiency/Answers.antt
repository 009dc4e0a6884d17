-- `quality::has_efficiency` meets its contract. Assumes nothing.
use Rattle.std.proofs.Common.{arith}
use Rattle.std.proofs.lemmas.Grind.{common_steps}
use Rattle.quality.specs.Efficiency.{has_efficiency}
use Rattle.quality.proofs.has_efficiency.Goals as goal

pub returns-then-labelled-unlabelled : goal.returns-then-labelled-unlabelled
unfolding has_efficiency
returns-then-labelled-unlabelled c = grind (arith, common_steps)

pub returns-else-labelled-unlabelled : goal.returns-else-labelled-unlabelled
unfolding has_efficiency
returns-else-labelled-unlabelled c = grind (arith, common_steps)
