-- `packed::writer::push_run` meets its contract. The invariant: the values left to take are `left` of them. Assumes nothing.
use mathlib.Core.Path.{◌≡◌, sym, ap, ◌∙◌}
use mathlib.Core.List.{◌++◌}
use Prim.Native.Nat.{ℕ, ◌+◌, ◌-◌}
use native.Mathlib.Omega.{arith}
use lib.ListN.{replicate, length-replicate, replicate-append-replicate}
use Rattle.packed.proofs.Runs.{run-start, run_more, run_end, run-size, run_room}
use Rattle.packed.proofs.writer.push_run.Goals as goal

pub loop-left-init : goal.loop-left-init
loop-left-init c = let a = c.args in run-start a.w a.out.now (replicate a.k a.value)

pub push-taken-requires : goal.push-taken-requires
push-taken-requires c =
    let o = c.at_once-here.ensures in
    let v = c.args.value in (
      run_room c.requires c.loop-left.invariant (sym (length-replicate c.args.k v)) _ (omega (arith, o.1, length-replicate c.loop-left.left v)),
      o.0,
      o.2,
      o.3,
    )

pub overflow_sub-left : goal.overflow_sub-left
overflow_sub-left c = omega (arith, c.at_once-here.ensures.1)

pub loop-left-smaller : goal.loop-left-smaller
loop-left-smaller c = omega (arith, c.at_once-here.ensures)

pub loop-left-preserved : goal.loop-left-preserved
loop-left-preserved c =
    let o = c.at_once-here in
    let v = c.args.value in
    let whole : o.result + (c.loop-left.left - o.result) ≡ c.loop-left.left = omega (arith, o.ensures.1) in
    let split : replicate c.loop-left.left v ≡ replicate o.result v ++ replicate (c.loop-left.left - o.result) v =
    sym (replicate-append-replicate o.result (c.loop-left.left - o.result) v ∙ ap (λ (m : ℕ). replicate m v) whole) in
    run_more (rw split at c.loop-left.invariant) c.push-taken.ensures

pub shape_of-out : goal.shape_of-out
shape_of-out c = run-size c.requires c.loop-left.invariant

pub returns : goal.returns
returns c =
    let none : c.loop-left.left ≡ 0 = omega arith in
    run_end (rw none at c.loop-left.invariant)
