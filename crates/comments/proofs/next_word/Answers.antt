-- `comments::next_word` meets its contract. Assumes nothing.
use Rattle.std.proofs.Common.{◌<◌, length, sym, ap, ◌∙◌, arith}
use Rattle.comments.specs.Comments.{first_place}
use Rattle.comments.proofs.Walk.{Reached, reached_first, reached_next, left_word, first_word, first-none}
use Rattle.comments.proofs.next_word.Goals as goal
use Rattle.comments.proofs.next_word.Goals.{After-next_word-i-in-loop-i}

pub loop-i-init : goal.loop-i-init
loop-i-init c = reached_first _ _ _ c.requires c.next_word-i.ensures

-- a comment is passed
further : (c : After-next_word-i-in-loop-i) → (c.loop-i.i < c.next_word-i-in-loop-i.result) × Reached c.args.text.now c.args.at c.next_word-i-in-loop-i.result
further c =
    reached_next _ _ _ _ _ c.loop-i.invariant c.loop-i-test.true (sym c.starts_comment.ensures ∙ c.if-starts_comment.true) c.line_end.ensures c.next_word-i-in-loop-i.ensures

pub loop-i-smaller : goal.loop-i-smaller
loop-i-smaller c = omega (arith, further c)

pub loop-i-preserved : goal.loop-i-preserved
loop-i-preserved c = (further c).1

pub returns-else-starts_comment : goal.returns-else-starts_comment
returns-else-starts_comment c =
    let text = c.args.text.now in
    let r = c.loop-i.invariant in
    sym
    (ap (first_place (length text)) (r.words ∙ left_word text c.loop-i.i (sym c.starts_comment.ensures ∙ c.if-starts_comment.false))
    ∙ first_word text c.loop-i.i c.loop-i-test.true (r.ink c.loop-i-test.true))

pub returns-after-loop-i : goal.returns-after-loop-i
returns-after-loop-i c =
    let text = c.args.text.now in
    let none = ap (first_place (length text)) c.loop-i.invariant.words ∙ first-none text c.loop-i.i c.loop-i-test.false in
    omega (arith, none, c.loop-i.invariant.within)
