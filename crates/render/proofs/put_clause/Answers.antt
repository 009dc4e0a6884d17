-- `render::put_clause` meets its contract. Assumes nothing.
use Rattle.render.proofs.LineLaws.{code-at, word_room, line-more}
use Rattle.render.proofs.put_clause.Goals as goal

pub put_word-next-requires : goal.put_word-next-requires
put_word-next-requires g c = word_room c.loop-code.invariant (code-at _ _ _ c.loop-code-test.true c.code-item.is c.wide.ensures)

pub loop-code-preserved : goal.loop-code-preserved
loop-code-preserved g c =
    line-more c.loop-code.invariant (code-at _ _ _ c.loop-code-test.true c.code-item.is c.wide.ensures) (c.put_word-next.ensures.next, c.put_word-next.ensures.bytes)
