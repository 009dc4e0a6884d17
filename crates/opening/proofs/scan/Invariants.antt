-- `opening::scan` meets its contract. Each turn judges one word, and the scan of the words from `at` on, from the locals, stays the answer.
-- Assumes nothing.
use mathlib.Core.Path.{◌≡◌}
use Prim.Native.Nat.{◌-◌, ◌≤◌}
use lib.ListN.{length}
use Rattle.comments.specs.Comments.{words_past, Between}
use Rattle.store.specs.Stores.{max_literals}
use Rattle.opening.specs.Clauses.{scan_from}
use Rattle.opening.proofs.scan.Given as goal

abbrev pub invariant-loop-closed : goal.invariant-loop-closed
invariant-loop-closed l =
    Between l.text l.at
    × (l.closed ≤ l.m)
    × (l.count ≤ max_literals)
    × (scan_from (length l.text) l.n l.m 0 0 (words_past l.text l.start) ≡ scan_from (length l.text) l.n l.m l.closed l.count (words_past l.text l.at))

abbrev pub decreases-loop-closed : goal.decreases-loop-closed
decreases-loop-closed l = length l.text - l.at
