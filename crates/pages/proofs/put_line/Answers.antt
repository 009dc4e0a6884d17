-- `pages::put_line` meets its contract. Assumes nothing.
use Rattle.std.proofs.Common.{refl, arith}
use Rattle.pages.proofs.put_line.Goals as goal

-- no room for the line
pub returns-then-out-at : goal.returns-then-out-at
returns-then-out-at g c = (omega arith, refl)
