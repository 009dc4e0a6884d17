-- `permutation::name_of` meets its contract, by one law for each way out. Assumes nothing.
use Rattle.permutation.proofs.NameLaws.{name-negative, name-positive}
use Rattle.permutation.proofs.name_of.Goals as goal

pub returns-then-number : goal.returns-then-number
returns-then-number c = name-negative _ _ c.if-number.true

pub returns : goal.returns
returns c = rw (name-positive _ c.args.number c.if-number.false) c.size_of.ensures
