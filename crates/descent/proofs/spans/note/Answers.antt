-- `descent::spans::note` meets its contract. The invariant: the spans of the rows before r are noted. Assumes nothing.
use Prim.Native.Nat.{◌<◌}
use mathlib.Core.Logic.{◌≢◌}
use native.Mathlib.Omega.{arith}
use borrow.Author.Count.{below_more}
use lib.ListN.{length}
use lib.Seq.{get_or-set_same, get_or-set_other}
use Rattle.descent.proofs.spans.note.Goals as goal

pub loop-r-preserved : goal.loop-r-preserved
loop-r-preserved c =
    below_more _ _
    (λ q h. let other : q ≢ c.loop-r.r = omega arith in rw get_or-set_other (c.loop-r.invariant q h))
    (let inside : c.loop-r.r < length c.loop-r.spans = omega arith in rw get_or-set_same (rw c.row.ensures at c.span_of.ensures))
