-- `store::form::literals_within` meets its contract. Assumes nothing.
use Rattle.std.proofs.Common.{sym, ◌∙◌, arith}
use mathlib.Core.Bool.{and-true}
use Rattle.lists.proofs.Steps.{all-drop-step, all-drop-end}
use Rattle.store.specs.Literals.{is_literal}
use Rattle.store.proofs.form.literals_within.Goals as goal

pub loop-code-preserved : goal.loop-code-preserved
loop-code-preserved c =
    c.loop-code.invariant
    ∙ all-drop-step (is_literal _) _ c.loop-code.code-index c.loop-code.all c.is_literal-all.result 0 (omega arith) c.is_literal-all.ensures

pub returns : goal.returns
returns c =
    let a = c.args in
    sym (c.loop-code.invariant ∙ rw (all-drop-end (is_literal a.n) a.literals.now c.loop-code.code-index (omega arith)) (and-true c.loop-code.all))
