-- `lexleader::places::next_auxiliary` meets its contract: the next pair has an auxiliary where another pair follows it. Assumes nothing.
use mathlib.Core.Path.{refl, sym}
use Prim.Native.Nat.{◌+◌}
use native.Mathlib.Omega.{arith}
use Rattle.lexleader.proofs.Marked.{marks-length}
use Rattle.lexleader.proofs.PlaceLaws.{few-auxiliaries, at_last, no-later, starts, after_next, to-next}
use Rattle.lexleader.proofs.places.next_auxiliary.Goals as goal

pub overflow_add-e : goal.overflow_add-e
overflow_add-e c = omega (arith, few-auxiliaries c.args.row.now c.args.place c.requires.0.stands)

pub next_pair-next-requires : goal.next_pair-next-requires
next_pair-next-requires c = omega (arith, c.requires.2, marks-length _ c.requires.1)

pub returns-then-next-row : goal.returns-then-next-row
returns-then-next-row c =
    let row = c.args.row.now in
    let p = c.args.place in
    let r = c.requires.0 in
    let then = r.stands.then r.inside in
    let here = then.here c.requires.2 in
    let none = no-later row p.next c.next_pair-next.result (p.auxiliary + 1) (p.j + 1) c.requires.2 here (c.next_pair-next.ensures row c.requires.1) (omega (arith, r.stands.one)) (omega arith) in
    let few = after_next row p r.stands r.inside c.requires.2 in
    to-next row p r.stands r.inside c.requires.2 _
    (at_last row (p.auxiliary + 1) c.no_place.result c.no_place.ensures (omega (arith, few, r.stands.after-most)) (sym none.0) (sym none.1))

pub overflow_add-result : goal.overflow_add-result
overflow_add-result c = omega (arith, c.requires.0.stands.early)

pub returns : goal.returns
returns c =
    let row = c.args.row.now in
    let p = c.args.place in
    let r = c.requires.0 in
    let then = r.stands.then r.inside in
    let few = after_next row p r.stands r.inside c.requires.2 in
    to-next row p r.stands r.inside c.requires.2 _
    (starts row p.next c.next_pair-next.result (p.auxiliary + 1) (p.j + 1) c.requires.2 (then.here c.requires.2) (c.next_pair-next.ensures row c.requires.1)
    (λ last. absurd (omega arith)) (omega arith) (omega (arith, r.stands.early, then.onward)) refl refl (omega (arith, few, r.stands.after-most)))
