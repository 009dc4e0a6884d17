-- `lexleader::numbered::pair_at` meets its contract. The invariant: the pairs from number `counter` on, from 1, are those of index i and after it, i being that of
-- an x. Assumes nothing.
use mathlib.Core.Path.{◌≡◌}
use Prim.Native.Nat.{◌+◌, ◌-◌, ◌<◌}
use lib.ListN.{length, drop}
use mathlib.Core.List.{◌∷◌}
use Rattle.lexleader.specs.Rows.{pairs_of}
use Rattle.lexleader.specs.Clause.{pair_at, pairs_at}
use Rattle.lexleader.proofs.numbered.pair_at.Given as goal

abbrev pub invariant-loop : goal.invariant-loop
invariant-loop l = record {
  inside : l.i < length l.row;
  same : drop (l.counter - 1) (pairs_of l.row) ≡ pairs_at l.i l.row;
  here : pairs_at l.i l.row ≡ pair_at l.row l.i ∷ pairs_at (l.i + 1) l.row;
}
