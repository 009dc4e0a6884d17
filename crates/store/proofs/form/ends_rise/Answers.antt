-- `store::form::ends_rise` meets its contract. Assumes nothing.
use Rattle.std.proofs.Common.{◌≡◌, ◌+◌, ◌-◌, sym, ◌∙◌, arith}
use Rattle.store.proofs.FormLaws.{rising-first, rising_step, rising-end}
use Rattle.store.proofs.form.ends_rise.Goals as goal

pub loop-i-init : goal.loop-i-init
loop-i-init c = rising-first _

pub loop-i-preserved : goal.loop-i-preserved
loop-i-preserved c =
    let last : c.loop-i.i + 1 - 1 ≡ c.loop-i.i = omega arith in
    rw last (c.loop-i.invariant ∙ rising_step c.loop-i.rise _ c.args.ends.now c.loop-i.i (omega arith))

pub returns : goal.returns
returns c = sym (c.loop-i.invariant ∙ rising-end c.loop-i.rise _ _ c.loop-i.i (omega arith))
