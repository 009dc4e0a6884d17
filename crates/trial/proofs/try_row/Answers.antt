-- `trial::try_row` meets its contract. The invariant: the pairs at index i and after it decide as all pairs do (`Trying`). Assumes nothing.
use native.Mathlib.Omega.{arith}
use Rattle.trial.proofs.PairLaws.{trying-on, trying-none}
use Rattle.trial.proofs.try_row.Goals as goal

pub returns-else-decides-3 : goal.returns-else-decides-3
returns-else-decides-3 c =
    let none = trying-none (trying-on c.loop-i.invariant.1 c.decides-then-i-end.ensures c.if-decides-3.false) c.requires.0 (omega arith) in
    record { variable = none.0; lowers = none.1; decided = tt }

pub returns-else-i-end : goal.returns-else-i-end
returns-else-i-end c =
    let none = trying-none c.loop-i.invariant.1 c.requires.0 (omega arith) in
    record { variable = none.0; lowers = none.1; decided = tt }
