-- `valuation::literal_value` meets its contract: the value of the variable, or its opposite where the literal is negative. Assumes nothing.
use mathlib.Core.Path.{sym, ◌∙◌}
use borrow.Author.Tests.{eqb-true, eqb-false}
use Rattle.packed.proofs.Bits.{value-is}
use Rattle.store.specs.Literals.{variable_of}
use Rattle.valuation.proofs.Values.{negative-value, positive-value}
use Rattle.valuation.proofs.literal_value.Goals as goal

pub value-value-requires : goal.value-value-requires
value-value-requires c = rw c.variable.ensures c.requires

pub returns-then-is_negative : goal.returns-then-is_negative
returns-then-is_negative c n h =
    let found = (rw c.variable.ensures at c.value-value.ensures) ∙ value-is n c.args.a.now (variable_of c.args.code) c.requires.0 h in
    negative-value _ _ _ found (eqb-true _ 1 (sym c.is_negative.ensures ∙ c.if-is_negative.true))

pub returns-else-is_negative : goal.returns-else-is_negative
returns-else-is_negative c n h =
    let found = (rw c.variable.ensures at c.value-value.ensures) ∙ value-is n c.args.a.now (variable_of c.args.code) c.requires.0 h in
    positive-value _ _ _ found (eqb-false _ 1 (sym c.is_negative.ensures ∙ c.if-is_negative.false))
