-- `emit::header` meets its contract. Assumes nothing.
use Rattle.render.specs.Text.{header_line}
use Rattle.emit.proofs.WrittenLaws.{left_alone, put-there}
use Rattle.emit.proofs.header.Goals as goal

pub returns-then-out-needed : goal.returns-then-out-needed
returns-then-out-needed c =
    let all = let a = c.args in
    left_alone (header_line a.total.variables a.total.clauses) a.out.now _ c.header_length-needed.ensures c.if-out-needed.true in
    record { answer = all.0; buffer = all.1 }

pub returns : goal.returns
returns c =
    let all = let a = c.args in
    put-there (header_line a.total.variables a.total.clauses) a.out.now _ _ c.header_length-needed.ensures c.if-out-needed.false c.put_header.ensures.bytes in
    record { answer = all.0; buffer = all.1 }
