-- `store::rows::moves_nothing` meets its contract. The invariant: the row moves nothing exactly where nothing of index i and after it is moved. Assumes nothing.
use Rattle.std.proofs.Common.{◌≡◌}
use Rattle.store.specs.Identity.{moves_nothing}
use Rattle.store.proofs.Identity.{stays_at}
use Rattle.store.proofs.rows.moves_nothing.Given as goal

abbrev pub invariant-loop-i : goal.invariant-loop-i
invariant-loop-i l = moves_nothing l.row ≡ stays_at l.i l.row
