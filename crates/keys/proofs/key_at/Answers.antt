-- `keys::key_at` meets its contract: the clause's number from 1 is its mark. Assumes nothing.
use Rattle.std.proofs.Common.{◌≡◌, ◌+◌, ◌∙◌, arith}
use Rattle.store.proofs.Held.{its-literals}
use Rattle.keys.proofs.key_at.Goals as goal

pub key-requires : goal.key-requires
key-requires c =
    (rw c.clause.ensures (its-literals c.args.clauses c.args.c c.requires.0), c.requires.1, c.requires.2)

pub overflow_cast-c : goal.overflow_cast-c
overflow_cast-c c = omega (arith, c.args.clauses.formed.clauses-fit, c.requires.0)

pub returns : goal.returns
returns c = let next : c.args.c + 1 + 1 ≡ c.args.c + 2 = omega arith in
    record {
      key = c.key.ensures.key ∙ rw c.clause.ensures;
      marked = rw c.clause.ensures at c.key.ensures.marked;
      below = rw next at c.key.ensures.below;
    }
