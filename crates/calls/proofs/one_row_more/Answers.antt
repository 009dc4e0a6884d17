-- `calls::one_row_more` meets its contract: 20, 21, 22 are tried, and then the offer to a well-formed store. Assumes nothing.
use native.Mathlib.Omega.{arith}
use lib.Arith.{lt_of_le-ne}
use Rattle.store.proofs.Demands.{rest_of}
use Rattle.standing.proofs.StandingLaws.{ready, its-form, its-keys, stands}
use Rattle.calls.proofs.one_row_more.Goals as goal

pub offer-requires : goal.offer-requires
offer-requires c =
    let well = (ready _ (stands _ c.in_ok-admit_by.ensures)).1 in
    let form = its-form _ well in
    (form, its-keys _ well, lt_of_le-ne (rest_of _ form).rows_fit c.if-counts-eq-MAX_ROWS.false, c.numbers-table.ensures)

pub overflow_add-result : goal.overflow_add-result
overflow_add-result c = omega (arith, (rest_of _ (its-form _ (ready _ (stands _ c.in_ok-admit_by.ensures)).1)).rows_fit)
