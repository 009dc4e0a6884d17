-- `printing::print_from` meets its contract. The invariant: what is left from the count on is what the stage has left; each page with bytes leaves less.
-- Assumes nothing.
use Rattle.std.proofs.Common.{arith, ◌∙◌}
use Rattle.printing.proofs.PrintingLaws.{page-rest}
use Rattle.printing.proofs.print_from.Goals as goal

pub loop-stdout-preserved : goal.loop-stdout-preserved
loop-stdout-preserved c =
    (c.page-printed.ensures.stands, c.page-printed.ensures.size ∙ c.loop-stdout.invariant.1, page-rest c.page-printed.ensures _ _ c.loop-stdout.invariant.2 _ (omega arith))
