-- `opening::problem_of` meets its contract: the first line that is no comment decides, by what it says and by the limits. Assumes nothing.
use Rattle.std.proofs.Common.{◌≡◌, Option, sym, ap, ◌∙◌, arith}
use Rattle.dimacs.specs.Lines.{is_line_byte}
use Rattle.dimacs.proofs.Runs.{run-within}
use Rattle.opening.specs.Problem.{problem_of, within_limits}
use Rattle.opening.specs.declared.Sizes.{Sizes}
use Rattle.opening.proofs.ProblemLaws.{problem-none, problem-here}
use Rattle.opening.proofs.problem_of.Goals as goal
use Rattle.opening.proofs.problem_of.Goals.{After-sizes_of}

pub returns-then-text-start : goal.returns-then-text-start
returns-then-text-start c = sym (problem-none _ _ c.first_line-start.ensures c.if-text-start.true)

pub slice_bounds-sizes_of-end : goal.slice_bounds-sizes_of-end
slice_bounds-sizes_of-end c = omega (arith, run-within is_line_byte c.args.text.now c.first_line-start.result (omega arith))

-- what the line says decides
said : (c : After-sizes_of) (s : Option Sizes) → c.sizes_of.result ≡ s
    → problem_of c.args.text.now ≡ within_limits s c.first_line-start.result c.line_end-end.result
said c s e =
    problem-here _ _ c.first_line-start.ensures c.if-text-start.false _ c.line_end-end.ensures
    ∙ ap (λ (t : Option Sizes). within_limits t c.first_line-start.result c.line_end-end.result) (sym c.sizes_of.ensures ∙ e)

pub returns-in_default : goal.returns-in_default
returns-in_default c = sym (said (goal.at.returns-in_default c).After-sizes_of _ c.in_default.is)

pub returns-then-not-fits : goal.returns-then-not-fits
returns-then-not-fits c = sym (said (goal.at.returns-then-not-fits c).After-sizes_of _ c.in-Some.is ∙ rw (sym c.fits.ensures ∙ c.if-not-fits.true))

pub returns : goal.returns
returns c = sym (said (goal.at.returns c).After-sizes_of _ c.in-Some.is ∙ rw (sym c.fits.ensures ∙ c.if-not-fits.false))
