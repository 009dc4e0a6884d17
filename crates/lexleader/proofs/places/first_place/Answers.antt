-- `lexleader::places::first_place` meets its contract: what is left at a row's first x is all of the row's. Assumes nothing.
use mathlib.Core.Path.{refl}
use Prim.Native.Nat.{◌<◌}
use native.Mathlib.Omega.{arith}
use lib.ListN.{length}
use Rattle.lexleader.proofs.Marked.{marks-length}
use Rattle.lexleader.proofs.PlaceLaws.{first_rest, first-none, at_last, starts}
use Rattle.lexleader.proofs.places.first_place.Goals as goal
use Rattle.lexleader.proofs.places.first_place.Goals.{Else-index-row}

pub returns-then-index-row : goal.returns-then-index-row
returns-then-index-row c =
    let a = c.args in
    let none = first-none a.row.now a.e c.next_pair-index.result (c.next_pair-index.ensures _ c.requires.1) (omega arith) in
    at_last a.row.now a.e c.no_place.result c.no_place.ensures (omega (arith, none.1)) none.0 none.1

-- the first x is one of the row's variables
within : (c : Else-index-row) → c.next_pair-index.result < length c.args.marks.now
within c = omega (arith, (c.next_pair-index.ensures _ c.requires.1).within, marks-length _ c.requires.1)

pub overflow_add-index : goal.overflow_add-index
overflow_add-index c = omega (arith, within c)

pub next_pair-next-requires : goal.next_pair-next-requires
next_pair-next-requires c = omega (arith, within c)

pub returns : goal.returns
returns c =
    let a = c.args in
    let row = a.row.now in
    let index = c.next_pair-index.result in
    let inside : index < length row = omega (arith, (c.next_pair-index.ensures row c.requires.1).within) in
    let rest = first_rest row a.e index (c.next_pair-index.ensures row c.requires.1) in
    let here = (c.next_pair-index.ensures row c.requires.1).here inside in
    starts row index c.next_pair-next.result a.e 1 inside here (c.next_pair-next.ensures row c.requires.1) (λ _. refl) (omega arith) (omega arith) rest.0 rest.1
    c.requires.2
