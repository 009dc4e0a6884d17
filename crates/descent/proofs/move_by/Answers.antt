-- `descent::move_by` meets its contract: the second table is the moved one, and the other comes to be the same. Assumes nothing.
use mathlib.Core.Path.{sym}
use Rattle.descent.proofs.MoveLaws.{copied}
use Rattle.descent.proofs.move_by.Goals as goal

pub returns : goal.returns
returns c =
    let same = copied c.move_span.ensures.others c.copy_from_slice.ensures.after in
    record {
      table = rw same c.move_span.ensures.table;
      bits = rw same c.move_span.ensures.bits;
      same = sym same;
    }
