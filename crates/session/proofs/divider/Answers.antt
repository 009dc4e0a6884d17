-- `session::divider` meets its contract. The invariant: the first line that is just `%` is among those from `at` on. Assumes nothing.
use mathlib.Core.Path.{sym, ◌∙◌}
use native.Mathlib.Omega.{arith}
use Rattle.dimacs.specs.Lines.{is_line_byte}
use Rattle.dimacs.proofs.Runs.{run-within}
use Rattle.session.proofs.DividerLaws.{divider-here, other-line, no-divider}
use Rattle.session.proofs.divider.Goals as goal

pub slice_bounds-eq-end-in-loop-at : goal.slice_bounds-eq-end-in-loop-at
slice_bounds-eq-end-in-loop-at c = omega (arith, run-within is_line_byte c.args.input.now c.loop-at.at (omega (arith, c.loop-at-test.true)))

pub returns-then-eq : goal.returns-then-eq
returns-then-eq c =
    (c.loop-at-test.true, sym (c.loop-at.invariant ∙ divider-here _ c.loop-at.at c.loop-at-test.true _ c.line_end-end.ensures _ c.eq.ensures c.if-eq.true))

pub loop-at-preserved : goal.loop-at-preserved
loop-at-preserved c = c.loop-at.invariant ∙ other-line _ c.loop-at.at c.loop-at-test.true _ c.line_end-end.ensures _ c.eq.ensures c.if-eq.false

pub returns : goal.returns
returns c = c.loop-at.invariant ∙ no-divider _ c.loop-at.at (omega (arith, c.loop-at-test.false))
