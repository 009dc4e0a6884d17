-- `render::put_bytes` meets its contract. Assumes nothing.
use Rattle.std.proofs.Common.{arith}
use Rattle.std.proofs.lemmas.Grind.{common_steps}
use Rattle.render.specs.Text.{written_at}
use Rattle.render.proofs.put_bytes.Goals as goal

pub returns-clause-bytes : goal.returns-clause-bytes
unfolding written_at
returns-clause-bytes c = grind (arith, common_steps)
