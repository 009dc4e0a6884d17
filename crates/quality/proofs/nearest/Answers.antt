-- `quality::nearest` meets its contract: twice a remainder is less than twice the limit, and where it rounds up the quotient is less than x. Assumes nothing.
use mathlib.Core.Path.{sym}
use native.Mathlib.Nat.{mod-lt}
use native.Mathlib.Omega.{arith}
use lib.Arith.{lt_of_le-ne}
use Rattle.quality.proofs.Rounding.{rounds-down, exact-half, rounds-up, room-above}
use Rattle.quality.proofs.nearest.Goals as goal

pub overflow_mul-twice : goal.overflow_mul-twice
overflow_mul-twice c = omega (arith, c.requires.y_le_max_labelled, mod-lt c.args.x c.requires.y_nonzero)

pub returns-then-twice-y : goal.returns-then-twice-y
returns-then-twice-y c = sym (rounds-down _ _ c.if-twice-y.true)

pub overflow_add-result : goal.overflow_add-result
overflow_add-result c = omega (arith, room-above _ _ c.requires.y_nonzero c.if-twice-y.false)

pub returns-then-twice-y-2 : goal.returns-then-twice-y-2
returns-then-twice-y-2 c = sym (exact-half _ _ c.if-twice-y-2.true)

pub overflow_add-result-2 : goal.overflow_add-result-2
overflow_add-result-2 c = omega (arith, room-above _ _ c.requires.y_nonzero c.if-twice-y.false)

pub returns : goal.returns
returns c = sym (rounds-up _ _ (lt_of_le-ne c.if-twice-y.false (λ e. c.if-twice-y-2.false (sym e))))
