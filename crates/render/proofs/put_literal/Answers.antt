-- `render::put_literal` meets its contract: `-`, and the digits after it or over it. Assumes nothing.
use Rattle.std.proofs.Common.{length-set, arith}
use Rattle.render.proofs.LineLaws.{text-length, text-some, put-text}
use Rattle.render.proofs.Writing.{put}
use Rattle.render.proofs.put_literal.Goals as goal

pub bounds-out-at : goal.bounds-out-at
bounds-out-at c = omega (arith, text-some c.args.code)

pub put_number-requires : goal.put_number-requires
put_number-requires c =
    simp length-set (omega (arith, text-length c.args.code c.variable.result c.variable.ensures c.is_negative.result c.is_negative.ensures))

pub returns : goal.returns
returns c =
    let all = (put-text c.args.code c.variable.result c.variable.ensures c.is_negative.result c.is_negative.ensures (put (c.put_number.ensures.next, c.put_number.ensures.bytes))).told c.requires in
    record { next = all.0; bytes = all.1 }
