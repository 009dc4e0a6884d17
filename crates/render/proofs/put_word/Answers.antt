-- `render::put_word` meets its contract: what `put_literal` wrote, and a byte. Assumes nothing.
use Rattle.render.proofs.Writing.{put, put_byte, put_then}
use Rattle.render.proofs.put_word.Goals as goal

pub returns-clause-bytes : goal.returns-clause-bytes
returns-clause-bytes c =
    ((put_then (put (c.put_literal-space.ensures.next, c.put_literal-space.ensures.bytes)) (put_byte _ 32 _)).told c.requires).1
