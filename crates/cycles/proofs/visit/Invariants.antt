-- `cycles::visit` meets its contract. The invariant: what was gone round and what is left of the cycle (`Rounding`). Assumes nothing.
use lib.ListN.{length}
use Rattle.cycles.proofs.Walks.{met}
use Rattle.cycles.proofs.Visiting.{Rounding}
use Rattle.cycles.proofs.visit.Given as goal

abbrev pub invariant-loop-v : goal.invariant-loop-v
invariant-loop-v l = Rounding l.images l.z l.initial.marks l.marks l.odd l.v

abbrev pub decreases-loop-v : goal.decreases-loop-v
decreases-loop-v l = length (met l.images l.z l.v)
