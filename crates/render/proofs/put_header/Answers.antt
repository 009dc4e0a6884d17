-- `render::put_header` meets its contract: two numbers after some bytes. Assumes nothing.
use Rattle.render.specs.Text.{header_line}
use Rattle.render.proofs.Writing.{put, put_then}
use native.Mathlib.Omega.{arith}
use Rattle.render.proofs.put_header.Goals as goal

pub put_bytes-number-requires : goal.put_bytes-number-requires
unfolding header_line
put_bytes-number-requires c = omega (arith, c.requires)

pub put_numbers-requires : goal.put_numbers-requires
unfolding header_line
put_numbers-requires c = omega (arith, c.requires)

pub returns : goal.returns
unfolding header_line
returns c =
    let all = (put_then (put (c.put_bytes-number.ensures.next, c.put_bytes-number.ensures.bytes)) (put (c.put_numbers.ensures.next, c.put_numbers.ensures.bytes))).told c.requires in
    record { next = all.0; bytes = all.1 }
