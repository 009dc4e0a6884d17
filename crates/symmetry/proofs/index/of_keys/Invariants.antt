-- `symmetry::index::of_keys` meets its contract. The invariant: the index holds the clauses before c. Assumes nothing.
use Rattle.buckets.specs.Buckets.{IndexHolds}
use Rattle.symmetry.specs.Index.{clause_bucket}
use Rattle.symmetry.proofs.index.of_keys.Given as goal

abbrev pub invariant-loop-c : goal.invariant-loop-c
invariant-loop-c l = IndexHolds (clause_bucket l.keys) l.c l.heads l.nexts
