-- `comments::first_line` meets its contract. Assumes nothing.
use Rattle.std.proofs.Common.{sym, ◌∙◌, arith}
use Rattle.dimacs.specs.Lines.{is_line_byte}
use Rattle.dimacs.proofs.Runs.{run-within}
use Rattle.comments.proofs.CommentLaws.{comment, no-comment, no_lines}
use Rattle.comments.proofs.first_line.Goals as goal

pub overflow_add-at : goal.overflow_add-at
overflow_add-at c = omega (arith, run-within is_line_byte c.args.text.now c.loop-at.at (omega arith))

pub loop-at-preserved : goal.loop-at-preserved
loop-at-preserved c =
    c.loop-at.invariant ∙ comment _ c.loop-at.at c.loop-at-test.true c.if-text-at-eq-COMMENT.true ∙ rw (← c.line_end-at.ensures)

pub returns-else-text-at-eq-COMMENT : goal.returns-else-text-at-eq-COMMENT
returns-else-text-at-eq-COMMENT c = sym (c.loop-at.invariant ∙ no-comment _ c.loop-at.at c.loop-at-test.true c.if-text-at-eq-COMMENT.false)

pub returns-after-loop-at : goal.returns-after-loop-at
returns-after-loop-at c = sym (c.loop-at.invariant ∙ no_lines _ c.loop-at.at c.loop-at-test.false)
