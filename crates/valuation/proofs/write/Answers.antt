-- `valuation::write` meets its contract. Assumes nothing.
use native.Mathlib.Omega.{arith}
use Rattle.packed.specs.Words.{word_count}
use Rattle.packed.proofs.Writing.{room_for}
use Rattle.valuation.specs.Tables.{bits_in}
use Rattle.valuation.proofs.TableLaws.{length-in, bits_none, bits-more}
use Rattle.valuation.proofs.write.Goals as goal

pub loop-i-init : goal.loop-i-init
loop-i-init c = rw (bits_none c.args.values.now) (c.begin-w.ensures c.args.out.now)

pub push-w-requires : goal.push-w-requires
unfolding word_count
push-w-requires c =
    let taken = length-in c.loop-i.i c.args.values.now in
    (room_for c.loop-i.invariant 1 (omega (arith, taken)) (omega (arith, taken)), omega arith, omega arith, omega arith)

pub loop-i-preserved : goal.loop-i-preserved
loop-i-preserved c =
    rw (← bits-more c.loop-i.i c.args.values.now) (c.push-w.ensures (bits_in c.loop-i.i c.args.values.now) c.args.out.now c.loop-i.invariant)
