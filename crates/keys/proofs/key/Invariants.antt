-- `keys::key` meets its contract. The invariant: of a front of the clause nothing is counted yet; the sum is the key of what the literals after it are sent to, and that
-- is marked. Assumes nothing.
use Rattle.std.proofs.Common.{◌≡◌, ◌+◌, length, take, drop}
use Rattle.keys.specs.Keys.{key_by}
use Rattle.keys.specs.Marks.{Below, Marked, sent_clause}
use Rattle.keys.proofs.key.Given as goal

abbrev pub invariant-loop-code : goal.invariant-loop-code
invariant-loop-code l =
    let sent = sent_clause l.places l.clause in
    let left = l.code-iterator.iter.rest.now in
    record {
      front : left ≡ take (length left) l.clause;
      key : l.sum ≡ key_by l.table (drop (length left) sent);
      marked : Marked l.mark (drop (length left) sent) l.marks;
      below : Below (l.mark + 1) l.marks;
    }
