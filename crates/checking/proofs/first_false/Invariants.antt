-- `checking::first_false` meets its contract. The invariant: the first false clause of all is that of the clauses from the cursor on, the first of which has
-- the number q (`LeftToTry`), and the marks are those of the cursor's row. Assumes nothing.
use Prim.Native.Nat.{◌+◌, ◌-◌}
use Rattle.store.specs.Held.{store_of}
use Rattle.cursor.specs.Cursors.{RowMarked}
use Rattle.checking.proofs.CheckLaws.{LeftToTry}
use Rattle.checking.proofs.first_false.Given as goal

abbrev pub invariant-loop-q : goal.invariant-loop-q
invariant-loop-q l =
    LeftToTry (store_of l.s) l.a l.clauses l.at l.q × RowMarked l.s.rows.counts l.s.rows.images.now l.at l.marks

abbrev pub decreases-loop-q : goal.decreases-loop-q
decreases-loop-q l = l.clauses + 1 - l.q
