-- `permutation::size_of` meets its contract, by one law for each way out. Assumes nothing.
use Rattle.permutation.proofs.NameLaws.{size-zero, size-beyond, size-within}
use Rattle.permutation.proofs.size_of.Goals as goal

pub returns-then-size-eq0 : goal.returns-then-size-eq0
returns-then-size-eq0 c = size-zero _ c.args.number c.if-size-eq0.true

pub returns-then-n-size : goal.returns-then-n-size
returns-then-n-size c = size-beyond _ c.args.number c.if-n-size.true

pub returns : goal.returns
returns c = size-within _ c.args.number c.if-size-eq0.false c.if-n-size.false
