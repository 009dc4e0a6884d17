-- `trials::show` is safe: the row is one, and the table has the values that a trial of it reads. Assumes nothing.
use Rattle.std.proofs.Common.{arith, sym, ◌∙◌}
use Rattle.store.proofs.Formed.{row_of}
use Rattle.trial.proofs.PairLaws.{span-covers}
use Rattle.trial.proofs.OnTable.{table-places}
use Rattle.trials.proofs.show.Goals as goal

pub span_of-requires : goal.span_of-requires
span_of-requires c = omega (arith, (row_of 6 _ (sym c.is_row.ensures ∙ c.if-not-is_row.false)).size)

pub try_row-requires : goal.try_row-requires
try_row-requires c =
    (span-covers c.span_of.ensures, table-places _ _ _ (sym c.is_row.ensures ∙ c.if-not-is_row.false) c.tabulate.ensures.table)
