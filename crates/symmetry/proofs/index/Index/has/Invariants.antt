-- `symmetry::index::Index::has` meets its contract. The invariant: what is looked for is among the clauses if it is among those up to `number`, from 1. Assumes nothing.
use Rattle.std.proofs.Common.{ℕ, ◌≤◌, List}
use Rattle.store.specs.Held.{formula_of}
use Rattle.symmetry.specs.Sought.{Sought}
use Rattle.symmetry.proofs.Looking.{Looking}
use Rattle.symmetry.proofs.index.Index.has.Given as goal

abbrev pub invariant-loop-number : goal.invariant-loop-number
invariant-loop-number l =
    record {
      low : l.number ≤ l.keyed.clauses.count;
      looking : (image : List ℕ) → Sought l.sought.mark l.sought.marks.now image → Looking image (formula_of l.keyed.clauses) l.keyed.keys.now l.number;
    }

abbrev pub decreases-loop-number : goal.decreases-loop-number
decreases-loop-number l = l.number
