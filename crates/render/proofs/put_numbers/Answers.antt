-- `render::put_numbers` meets its contract: what is put where another part ended is put with it. Assumes nothing.
use Rattle.std.proofs.Common.{ℕ, length-set, arith}
use Rattle.render.specs.Text.{two_numbers}
use Rattle.render.proofs.LineLaws.{length_two}
use Rattle.render.proofs.Writing.{put, put_byte, put_then}
use Rattle.render.proofs.put_numbers.Goals as goal

pub put_number-space-requires : goal.put_number-space-requires
put_number-space-requires c = omega (arith, length_two)

pub bounds-out-space : goal.bounds-out-space
bounds-out-space c = omega (arith, length_two)

pub overflow_add-space : goal.overflow_add-space
overflow_add-space c = omega (arith, length_two)

pub put_number-end-requires : goal.put_number-end-requires
put_number-end-requires c = omega (arith, length_two, length-set {A = ℕ})

pub bounds-out-end : goal.bounds-out-end
bounds-out-end c = omega (arith, length_two, length-set {A = ℕ})

pub overflow_add-result : goal.overflow_add-result
overflow_add-result c = omega (arith, length_two)

pub returns : goal.returns
unfolding two_numbers
returns c =
    let spaced = put_then (put (c.put_number-space.ensures.next, c.put_number-space.ensures.bytes)) (put_byte _ 32 _) in
    let numbers = put_then spaced (put (c.put_number-end.ensures.next, c.put_number-end.ensures.bytes)) in
    let all = (put_then numbers (put_byte _ 10 _)).told c.requires in
    record { next = all.0; bytes = all.1 }
