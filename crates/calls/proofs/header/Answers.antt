-- `calls::header` meets its contract: 20 and 21 are tried, and then the line is written. Assumes nothing.
use mathlib.Core.Path.{refl}
use Rattle.store.proofs.Formed.{formed}
use Rattle.standing.proofs.StandingLaws.{admitted-is, stands}
use Rattle.emit.specs.Emit.{header_by}
use Rattle.emit.proofs.WrittenLaws.{same_line, header-there}
use Rattle.calls.specs.Calls.{header_says, header_leaves}
use Rattle.calls.proofs.header.Goals as goal

pub totals_of-requires : goal.totals_of-requires
totals_of-requires c = (formed _ c.in_ok-store.store.formed).clauses-fit

pub returns : goal.returns
unfolding header_says header_leaves header_by
returns c =
    let line = header-there _ c.in_ok-store.store.formed c.totals_of.ensures in
    let wrote = same_line line c.args.out.now c.header.result _ (c.header.ensures.answer, c.header.ensures.buffer) in
    rw (stands _ c.in_ok-store.ensures, ← admitted-is _ c.in_ok-store.ensures, ← wrote.0) (record { says = refl; leaves = wrote.1 })
