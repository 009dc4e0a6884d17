-- `symmetry::image` meets its contract: one law for each sign. Assumes nothing.
use Rattle.std.proofs.Common.{◌∙◌, sym, arith}
use Rattle.store.proofs.FormLaws.{literal-low, literal-high}
use Rattle.symmetry.proofs.ImageLaws.{image-of-negative, image-of-positive}
use Rattle.symmetry.proofs.image.Goals as goal

pub overflow_sub-variable : goal.overflow_sub-variable
overflow_sub-variable c = omega (arith, c.variable.ensures, literal-low _ _ c.requires)

pub bounds-row-variable : goal.bounds-row-variable
bounds-row-variable c = omega (arith, c.variable.ensures, literal-low _ _ c.requires, literal-high _ _ c.requires)

pub returns-then-is_negative : goal.returns-then-is_negative
returns-then-is_negative c =
    rw (c.opposite.ensures, c.from-image.ensures, c.variable.ensures) (sym (image-of-negative _ _ (sym c.is_negative.ensures ∙ c.if-is_negative.true)))

pub returns-else-is_negative : goal.returns-else-is_negative
returns-else-is_negative c =
    rw (c.from-image.ensures, c.variable.ensures) (sym (image-of-positive _ _ (sym c.is_negative.ensures ∙ c.if-is_negative.false)))
