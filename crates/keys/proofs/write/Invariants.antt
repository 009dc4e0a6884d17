-- `keys::write` meets its contract. The invariant: the keys from clause c on, stored from c on, give what is to be written, and no mark is above c. Assumes nothing.
use Rattle.std.proofs.Common.{◌≡◌, ◌+◌, drop}
use lib.Seq.{sets}
use Rattle.lists.specs.Writing.{overwritten}
use Rattle.store.specs.Held.{formula_of}
use Rattle.keys.specs.Keys.{keys_of}
use Rattle.keys.specs.Marks.{Below}
use Rattle.keys.proofs.write.Given as goal

abbrev pub invariant-loop-c : goal.invariant-loop-c
invariant-loop-c l =
    let all = keys_of (formula_of l.clauses) in
    record { written : overwritten all l.initial.keys ≡ sets l.keys l.c (drop l.c all); below : Below (l.c + 1) l.marks }
