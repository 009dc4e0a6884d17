-- `checking::codes_hold` meets its contract. The invariant: the clause holds exactly when one of the literals that are left is true. Assumes nothing.
use mathlib.Core.Path.{refl}
use native.Mathlib.Omega.{arith}
use Rattle.lexleader.specs.Models.{clause_holds}
use Rattle.checking.proofs.ClauseLaws.{variable-within, tried-true, tried-false, tried-all}
use Rattle.checking.proofs.codes_hold.Goals as goal

pub loop-code-init : goal.loop-code-init
unfolding clause_holds
loop-code-init c = λ n within. refl

pub literal_value-requires : goal.literal_value-requires
literal_value-requires c = variable-within _ _ _ c.loop-code.invariant (omega arith) _ c.requires

pub returns-then-literal_value : goal.returns-then-literal_value
returns-then-literal_value c = tried-true _ _ _ c.loop-code.invariant (omega arith) _ c.literal_value.ensures c.if-literal_value.true

pub loop-code-preserved : goal.loop-code-preserved
loop-code-preserved c = tried-false _ _ _ c.loop-code.invariant (omega arith) _ c.literal_value.ensures c.if-literal_value.false

pub returns : goal.returns
returns c = tried-all _ _ _ c.loop-code.invariant (omega arith)
