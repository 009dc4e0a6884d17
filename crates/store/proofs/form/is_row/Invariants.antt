-- `store::form::is_row` meets its contract. The invariant: the codes passed are literals of different variables, and `seen` marks these
-- (`RowPassed`). Assumes nothing.
use Rattle.store.proofs.FormLaws.{RowPassed}
use Rattle.store.proofs.form.is_row.Given as goal

abbrev pub invariant-loop-code : goal.invariant-loop-code
invariant-loop-code l = RowPassed l.n l.row l.seen l.code-index
