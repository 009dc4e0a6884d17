-- `lexleader::places::next_place` meets its contract: past the only pair, on to the next clause of the auxiliary, or on to the next auxiliary. Assumes nothing.
use mathlib.Core.Path.{refl, sym, ap, ◌∙◌}
use mathlib.Core.List.{List, ◌∷◌, []}
use Prim.Native.Nat.{ℕ}
use native.Mathlib.Omega.{arith}
use lib.ListN.{get_or}
use Rattle.lexleader.specs.Places.{clauses_at}
use Rattle.lexleader.proofs.PlaceLaws.{few-auxiliaries, at_last, then_one, after_one, same-stands, last-clause}
use Rattle.lexleader.proofs.places.next_place.Goals as goal

pub returns-then-place-row : goal.returns-then-place-row
returns-then-place-row c =
    let row = c.args.row.now in
    let p = c.args.place in
    let r = c.requires.0 in
    let after = after_one row p r.stands r.inside (omega arith) in
    let z = at_last row p.auxiliary c.no_place.result c.no_place.ensures (few-auxiliaries row p r.stands) refl (sym after) in
    let passed = then_one row p r.stands r.inside (omega arith) ∙ ap (λ (l : List (List ℕ)). get_or (clauses_at row p) 0 [] ∷ l) (sym z.are) in
    record { stands = z.stands; passed = passed; auxiliary = z.auxiliary }

pub returns-then-place-lt6 : goal.returns-then-place-lt6
returns-then-place-lt6 c =
    let r = c.requires.0 in
    same-stands c.args.row.now c.args.place r.stands r.inside (omega (arith, (r.stands.then r.inside).within)) (omega arith) _ refl

pub next_auxiliary-requires : goal.next_auxiliary-requires
next_auxiliary-requires c = let r = c.requires.0 in (r, c.requires.1, omega (arith, (r.stands.then r.inside).within))

pub returns : goal.returns
returns c =
    let passed = last-clause c.args.row.now c.args.place (omega (arith, c.requires.0.stands.high)) c.next_auxiliary.ensures.passed in
    record { stands = c.next_auxiliary.ensures.stands; passed = passed; auxiliary = c.next_auxiliary.ensures.auxiliary }
