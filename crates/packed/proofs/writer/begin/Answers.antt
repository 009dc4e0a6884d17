-- `packed::writer::begin` meets its contract. Assumes nothing.
use Rattle.packed.proofs.Writing.{holds-none}
use Rattle.packed.proofs.writer.begin.Goals as goal

pub returns : goal.returns
returns c out = holds-none out
