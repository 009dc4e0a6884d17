-- `printing::print_from` meets its contract. The invariant: what is left from the count on is what the stage has left; each page with bytes leaves less.
-- Assumes nothing.
use mathlib.Core.Path.{◌≡◌}
use lib.ListN.{length}
use Rattle.store.specs.Stores.{lent}
use Rattle.program.specs.Program.{output_of, fresh_store, left_to_print, StageStands}
use Rattle.printing.proofs.PrintingLaws.{RestAt}
use Rattle.printing.proofs.print_from.Given as goal

abbrev pub invariant-loop-stdout : goal.invariant-loop-stdout
invariant-loop-stdout l =
    StageStands l.stage (lent l.counts l.literals l.ends l.images)
    × (length l.out ≡ length l.initial.out)
    × RestAt (output_of fresh_store l.input) l.handed (left_to_print l.stage (lent l.counts l.literals l.ends l.images))

abbrev pub decreases-loop-stdout : goal.decreases-loop-stdout
decreases-loop-stdout l = length (left_to_print l.stage (lent l.counts l.literals l.ends l.images))
