-- `packed::writer::push_run` meets its contract. The invariant: the values left to take are `left` of them. Assumes nothing.
use lib.ListN.{replicate}
use Rattle.packed.proofs.Runs.{WriterRun}
use Rattle.packed.proofs.writer.push_run.Given as goal

abbrev pub invariant-loop-left : goal.invariant-loop-left
invariant-loop-left l = WriterRun l.initial.taken l.initial.out (replicate l.k l.value) (replicate l.left l.value) l.taken l.out

abbrev pub decreases-loop-left : goal.decreases-loop-left
decreases-loop-left l = l.left
