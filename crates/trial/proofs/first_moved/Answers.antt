-- `trial::first_moved` meets its contract. The invariant: nothing before i is moved. Assumes nothing.
use mathlib.Core.Path.{◌≡◌, ◌∙◌}
use Prim.Native.Nat.{◌+◌, ◌*◌}
use native.Mathlib.Omega.{arith}
use lib.ListN.{get_or}
use Rattle.lexleader.proofs.Walk.{walk_end}
use Rattle.lexleader.proofs.Moved.{moved-start, moved-past, moved_here}
use Rattle.trial.proofs.first_moved.Goals as goal

pub returns-then-image-i : goal.returns-then-image-i
returns-then-image-i c =
    let row = c.args.row.now in
    let different : get_or row c.loop-i.i 0 ≡ 2 * (c.loop-i.i + 1) → ⊥ = λ e. omega (arith, c.if-image-i.true) in
    (omega arith, record { within = omega arith; onward = omega arith; same = c.loop-i.invariant; here = λ h. moved_here row c.loop-i.i h different })

pub loop-i-preserved : goal.loop-i-preserved
loop-i-preserved c = c.loop-i.invariant ∙ moved-past c.args.row.now c.loop-i.i (omega arith) (omega (arith, c.if-image-i.false))

pub returns : goal.returns
returns c = let row = c.args.row.now in moved-start row ∙ c.loop-i.invariant ∙ walk_end _ row _ (omega arith)
