-- `keys::are_right` meets its contract. The invariant: the answer is that for the clauses from clause c on, and no mark is above c. Assumes nothing.
use Rattle.std.proofs.Common.{◌≡◌, ◌+◌, drop}
use Rattle.store.specs.Held.{formula_of}
use Rattle.keys.specs.Keys.{right_keys}
use Rattle.keys.specs.Marks.{Below}
use Rattle.keys.proofs.are_right.Given as goal

abbrev pub invariant-loop-c : goal.invariant-loop-c
invariant-loop-c l =
    let formula = formula_of l.clauses in
    record { rest : right_keys formula l.keys ≡ right_keys (drop l.c formula) (drop l.c l.keys); below : Below (l.c + 1) l.marks }
