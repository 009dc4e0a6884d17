-- `permutation::identity` meets its contract. Assumes nothing.
use Rattle.std.proofs.Common.{◌≡◌, suc, ◌*◌, refl, arith}
use lib.ListN.{length-set}
use Rattle.permutation.proofs.RowLaws.{table_none, table_more}
use Rattle.permutation.proofs.identity.Goals as goal

pub loop-i-init : goal.loop-i-init
loop-i-init c = (refl, table_none _ _)

pub loop-i-preserved : goal.loop-i-preserved
loop-i-preserved c =
    let inv = c.loop-i.invariant in
    let image : c.code.result ≡ 2 * suc c.loop-i.i = omega (arith, c.code.ensures) in
    (simp length-set inv.0, rw (inv.1, image) (table_more _ _ c.loop-i.i (omega arith)))
