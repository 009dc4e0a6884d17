-- `valuation::tabulate` meets its contract. The invariant: the table has the values of the literals whose variables are before i (`TableBegun`).
-- Assumes nothing.
use Rattle.packed.specs.Words.{bits_of}
use Rattle.valuation.proofs.TableLaws.{TableBegun}
use Rattle.valuation.proofs.tabulate.Given as goal

abbrev pub invariant-loop-i : goal.invariant-loop-i
invariant-loop-i l = TableBegun (bits_of l.n l.a) l.values l.i
