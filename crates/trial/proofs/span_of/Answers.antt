-- `trial::span_of` meets its contract. The invariant: nothing is moved from i on. Assumes nothing.
use mathlib.Core.Path.{◌≡◌, ◌∙◌}
use Prim.Native.Nat.{◌-◌, ◌+◌}
use native.Mathlib.Omega.{arith}
use Rattle.lexleader.proofs.Walk.{walk_end}
use Rattle.lexleader.proofs.Moved.{moved-past}
use Rattle.trial.proofs.PairLaws.{starts-at}
use Rattle.trial.proofs.span_of.Goals as goal

pub loop-i-init : goal.loop-i-init
loop-i-init c = ((starts-at _ c.first_moved.ensures c.unwrap_or-first.ensures).within, walk_end _ _ _ (omega arith))

pub loop-i-preserved : goal.loop-i-preserved
loop-i-preserved c =
    let next : c.loop-i.i - 1 + 1 ≡ c.loop-i.i = omega arith in
    (omega arith, moved-past c.args.row.now (c.loop-i.i - 1) (omega arith) (omega (arith, c.if-row-i.false)) ∙ rw next c.loop-i.invariant.1)

pub returns-then-row-i : goal.returns-then-row-i
returns-then-row-i c =
    let next : c.loop-i.i - 1 + 1 ≡ c.loop-i.i = omega arith in
    let last : c.loop-i.i - 1 + 1 - 1 ≡ c.loop-i.i - 1 = omega arith in
    record {
      starts = starts-at _ c.first_moved.ensures c.unwrap_or-first.ensures;
      order = omega arith;
      within = omega arith;
      last = λ h. rw last c.if-row-i.true;
      none_after = rw next c.loop-i.invariant.1;
    }

pub returns : goal.returns
returns c =
    let starts = starts-at _ c.first_moved.ensures c.unwrap_or-first.ensures in
    let here : c.loop-i.i ≡ c.unwrap_or-first.result = omega arith in
    record {
      starts = starts;
      order = omega arith;
      within = starts.within;
      last = λ h. absurd (omega arith);
      none_after = rw here at c.loop-i.invariant.1;
    }
