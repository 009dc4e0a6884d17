-- `store::clauses::literal_count` meets its contract. Assumes nothing.
use Rattle.std.proofs.Common.{sym}
use Rattle.store.proofs.FormLaws.{count_none, count-last}
use Rattle.store.proofs.clauses.literal_count.Goals as goal

pub returns-then-m-eq0 : goal.returns-then-m-eq0
returns-then-m-eq0 c = sym (count_none _ _ c.if-m-eq0.true)

pub returns : goal.returns
returns c = sym (count-last _ _ c.if-m-eq0.false)
