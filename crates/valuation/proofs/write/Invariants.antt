-- `valuation::write` meets its contract. The invariant: the writer holds the values of the first i variables. Assumes nothing.
use Rattle.packed.specs.Writing.{WriterHolds}
use Rattle.valuation.specs.Tables.{bits_in}
use Rattle.valuation.proofs.write.Given as goal

abbrev pub invariant-loop-i : goal.invariant-loop-i
invariant-loop-i l = WriterHolds (bits_in l.i l.values) l.w l.initial.out l.out
