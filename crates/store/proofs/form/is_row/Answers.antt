-- `store::form::is_row` meets its contract. Assumes nothing.
use Rattle.std.proofs.Common.{◌≡◌, true, get_or, sym, ◌∙◌, arith}
use Rattle.store.specs.Literals.{variable_of, is_literal}
use Rattle.store.proofs.FormLaws.{literal-high, passed_none, passed-more, row-length, row-outside, row-twice, row-all}
use Rattle.store.proofs.form.is_row.Goals as goal
use Rattle.store.proofs.form.is_row.Goals.{After-variable-v}

pub returns-then-row-n : goal.returns-then-row-n
returns-then-row-n c = sym (row-length _ _ c.if-row-n.true)

pub loop-code-init : goal.loop-code-init
loop-code-init c = passed_none _ _

pub returns-then-not-is_literal : goal.returns-then-not-is_literal
returns-then-not-is_literal c =
    sym (row-outside _ _ c.loop-code.code-index (omega arith) (sym c.is_literal.ensures ∙ c.if-not-is_literal.true))

-- the code is a literal, and v is its variable
literal : (c : After-variable-v) → is_literal c.args.n (get_or c.args.row.now c.loop-code.code-index 0) ≡ true
literal c = sym c.is_literal.ensures ∙ c.if-not-is_literal.false

its : (c : After-variable-v) → c.variable-v.result ≡ variable_of (get_or c.args.row.now c.loop-code.code-index 0)
its c = omega arith

pub bounds-seen-v : goal.bounds-seen-v
bounds-seen-v c = omega (arith, its c, literal-high _ _ (literal c), c.requires)

pub returns-then-seen-v : goal.returns-then-seen-v
returns-then-seen-v c =
    let at = (goal.at.returns-then-seen-v c).After-variable-v in
    sym (row-twice _ _ _ _ _ c.loop-code.invariant (omega arith) (its at) (bounds-seen-v at) c.if-seen-v.true)

pub bounds-seen-v-in-loop-code : goal.bounds-seen-v-in-loop-code
bounds-seen-v-in-loop-code c = bounds-seen-v (goal.at.bounds-seen-v-in-loop-code c).After-variable-v

pub loop-code-preserved : goal.loop-code-preserved
loop-code-preserved c =
    let at = (goal.at.loop-code-preserved c).After-variable-v in
    passed-more _ _ _ _ _ c.loop-code.invariant (omega arith) (its at) (bounds-seen-v at) (literal at) c.if-seen-v.false

pub returns : goal.returns
returns c = sym (row-all _ _ _ _ c.loop-code.invariant c.if-row-n.false (omega arith))
