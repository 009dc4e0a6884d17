-- `emit::write_clause` meets its contract. Assumes nothing.
use Rattle.std.proofs.Common.{map}
use Rattle.render.specs.Text.{clause_line}
use Rattle.emit.proofs.WrittenLaws.{left_alone, put-there}
use Rattle.emit.proofs.write_clause.Goals as goal

pub returns-then-out-needed : goal.returns-then-out-needed
returns-then-out-needed g c =
    let line = clause_line (map g.C.Coded.code c.args.clause.now) in
    let all = left_alone line c.args.out.now _ c.clause_length-needed.ensures c.if-out-needed.true in
    record { answer = all.0; buffer = all.1 }

pub returns : goal.returns
returns g c =
    let line = clause_line (map g.C.Coded.code c.args.clause.now) in
    let all = put-there line c.args.out.now _ _ c.clause_length-needed.ensures c.if-out-needed.false c.put_clause.ensures.bytes in
    record { answer = all.0; buffer = all.1 }
