-- `lexleader::numbered::pair_at` meets its contract. Assumes nothing.
use mathlib.Core.Path.{◌≡◌, ◌∙◌}
use Prim.Native.Nat.{◌+◌, ◌-◌}
use native.Mathlib.Omega.{arith}
use Rattle.lexleader.specs.Rows.{pairs_of}
use Rattle.lexleader.specs.Clause.{pair_at, pairs_at}
use Rattle.lexleader.proofs.Marked.{marks-length}
use Rattle.lexleader.proofs.Walk.{pairs_start, next-found, rest-found}
use Rattle.lexleader.proofs.numbered.pair_at.Goals as goal

pub loop-init : goal.loop-init
loop-init c =
    let f = next-found c.args.row.now 0 0 c.next_pair-i.result (c.next_pair-i.ensures _ c.requires.1) (pairs_start c.args.row.now) (omega arith) in
    record { inside = f.0; same = f.1; here = f.2 }

pub next_pair-i-requires-in-loop : goal.next_pair-i-requires-in-loop
next_pair-i-requires-in-loop c = omega (arith, c.loop.invariant.inside, marks-length _ c.requires.1)

pub loop-preserved : goal.loop-preserved
loop-preserved c =
    let row = c.args.row.now in
    let inv = c.loop.invariant in
    let on : c.loop.counter - 1 + 1 ≡ c.loop.counter + 1 - 1 = omega arith in
    let f = next-found row (c.loop.counter + 1 - 1) (c.loop.i + 1) c.next_pair-i-in-loop.result (c.next_pair-i-in-loop.ensures _ c.requires.1)
    (rw (← on) (rest-found (pairs_of row) (c.loop.counter - 1) (pair_at row c.loop.i) (pairs_at (c.loop.i + 1) row) (inv.same ∙ inv.here))) (omega arith) in
    record { inside = f.0; same = f.1; here = f.2 }

pub returns : goal.returns
returns c =
    let last : c.loop.counter ≡ c.args.j = omega arith in
    (c.loop.invariant.inside, rw last at c.loop.invariant.same, c.loop.invariant.here)
