-- `lexleader::places::clause_at` meets its contract: the table has the clause. Assumes nothing.
use mathlib.Core.Path.{refl, sym, ◌∙◌}
use native.Mathlib.Omega.{arith}
use Rattle.lexleader.specs.Clause.{pair_at}
use Rattle.lexleader.proofs.TableLaws.{clause-same, same-table}
use Rattle.lexleader.proofs.PlaceLaws.{few-auxiliaries, at_one, at-two}
use Rattle.lexleader.proofs.places.clause_at.Goals as goal

pub table_clause-requires : goal.table_clause-requires
table_clause-requires c =
    let few = few-auxiliaries c.args.row.now c.args.place c.requires.stands in
    (omega arith, omega arith, few)

pub returns-then-next-row : goal.returns-then-next-row
returns-then-next-row c =
    let row = c.args.row.now in
    let p = c.args.place in
    clause-same c.table_clause.ensures
    (same-table 1 {e = p.auxiliary} {k = 0} refl refl c.own_code-x.ensures c.wide-y.ensures.0 c.own_code-x.ensures c.wide-y.ensures.0
    ∙ sym (at_one row p c.requires.stands c.requires.inside (omega arith) (pair_at row p.index)))

pub table_clause-requires-2 : goal.table_clause-requires-2
table_clause-requires-2 c =
    let few = few-auxiliaries c.args.row.now c.args.place c.requires.stands in
    (c.requires.stands.low, c.requires.stands.high, few)

pub returns : goal.returns
returns c =
    let row = c.args.row.now in
    let p = c.args.place in
    let more = (c.requires.stands.then c.requires.inside).within in
    clause-same c.table_clause-2.ensures
    (same-table p.j {e = p.auxiliary} refl refl c.own_code-x.ensures c.wide-y.ensures.0 c.own_code-x2.ensures c.wide-y2.ensures.0
    ∙ sym (at-two row p c.requires.stands c.requires.inside (omega arith)))
