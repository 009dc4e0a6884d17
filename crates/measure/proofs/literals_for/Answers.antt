-- `measure::literals_for` meets its contract. Assumes nothing.
use native.Mathlib.Omega.{arith}
use borrow.Author.Tests.{eq-eqb, ne_eqb}
use Rattle.measure.proofs.literals_for.Goals as goal

pub returns-then-count-eq0 : goal.returns-then-count-eq0
returns-then-count-eq0 c = rw (eq-eqb _ 0 c.if-count-eq0.true) (omega arith)

pub returns : goal.returns
returns c = rw (ne_eqb _ 0 c.if-count-eq0.false) (omega arith)
