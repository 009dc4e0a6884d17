-- `render::put_refusal` meets its contract: two numbers after some bytes. Assumes nothing.
use Rattle.render.specs.Text.{refusal_line}
use Rattle.render.proofs.Writing.{put, put_then}
use native.Mathlib.Omega.{arith}
use Rattle.render.proofs.put_refusal.Goals as goal

pub put_bytes-first-requires : goal.put_bytes-first-requires
unfolding refusal_line
put_bytes-first-requires c = omega (arith, c.requires)

pub put_numbers-requires : goal.put_numbers-requires
unfolding refusal_line
put_numbers-requires c = omega (arith, c.requires)

pub returns : goal.returns
unfolding refusal_line
returns c =
    let all = (put_then (put (c.put_bytes-first.ensures.next, c.put_bytes-first.ensures.bytes)) (put (c.put_numbers.ensures.next, c.put_numbers.ensures.bytes))).told c.requires in
    record { next = all.0; bytes = all.1 }
