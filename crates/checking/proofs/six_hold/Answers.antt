-- `checking::six_hold` meets its contract: the six clauses are those at the cursor's place in its row. Assumes nothing.
use mathlib.Core.Path.{sym, ◌∙◌}
use Rattle.checking.proofs.HeadLaws.{six-there}
use Rattle.checking.proofs.six_hold.Goals as goal

pub table_holds-requires : goal.table_holds-requires
table_holds-requires c =
    six-there _ _ _ c.requires.0 (c.at_auxiliary.ensures c.if-at_auxiliary.true) _ c.row.ensures c.requires.1 c.requires.2

pub returns-then-at_auxiliary : goal.returns-then-at_auxiliary
returns-then-at_auxiliary c e = (
  c.at_auxiliary.ensures c.if-at_auxiliary.true,
  λ n within. sym ((rw c.row.ensures at c.table_holds.ensures) n within) ∙ e,
)
