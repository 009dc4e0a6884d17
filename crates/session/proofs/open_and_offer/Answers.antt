-- `session::open_and_offer` meets its contract: the opening's answer decides, and what it left is offered the lines after `%`. Assumes nothing.
use mathlib.Core.Path.{sym, ◌∙◌}
use native.Mathlib.Omega.{arith}
use lib.Seq.{length-take-le}
use Rattle.dimacs.specs.Lines.{is_line_byte}
use Rattle.dimacs.proofs.Runs.{run-within}
use Rattle.session.proofs.SessionLaws.{refused-opening, opened}
use Rattle.session.proofs.open_and_offer.Goals as goal

pub slice_bounds-open-end : goal.slice_bounds-open-end
slice_bounds-open-end c =
    sym (length-take-le c.args.at c.args.input.now (omega (arith, c.requires)))

pub returns-in-Err : goal.returns-in-Err
returns-in-Err c =
    let law = refused-opening _ _ _ c.args.images.now _ c.args.at c.requires _ c.new_record.ensures in
    sym (law _ _ _ _ _ c.open-opened.ensures.says c.open-opened.ensures.leaves _ c.in-Err.is)

pub overflow_add-line_end : goal.overflow_add-line_end
overflow_add-line_end c =
    omega (arith, run-within is_line_byte c.args.input.now c.args.at (omega (arith, c.requires)))

pub returns : goal.returns
returns c =
    let law = opened _ _ _ c.args.images.now _ c.args.at c.requires _ c.new_record.ensures in
    c.offer_lines.ensures
    ∙ sym (law _ _ _ _ _ c.open-opened.ensures.says c.open-opened.ensures.leaves _ c.in_default.is _ (omega (arith, c.line_end.ensures)))
