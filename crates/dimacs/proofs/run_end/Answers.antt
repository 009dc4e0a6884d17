-- `dimacs::run_end` meets its contract. Assumes nothing.
use Rattle.std.proofs.Common.{sym, ◌∙◌}
use Rattle.dimacs.proofs.Runs.{run-stop, run_step, run_over}
use Rattle.dimacs.proofs.run_end.Goals as goal

pub returns-then-not-passes : goal.returns-then-not-passes
returns-then-not-passes g c = λ test is.
    sym (c.loop-i.invariant test is
    ∙ run-stop test c.args.text.now c.loop-i.i c.loop-i-test.true (sym (is _ _ (c.type_inv.text c.loop-i.i).fits c.passes.ensures) ∙ c.if-not-passes.true))

pub loop-i-preserved : goal.loop-i-preserved
loop-i-preserved g c = λ test is.
    c.loop-i.invariant test is
    ∙ run_step test c.args.text.now c.loop-i.i c.loop-i-test.true (sym (is _ _ (c.type_inv.text c.loop-i.i).fits c.passes.ensures) ∙ c.if-not-passes.false)

pub returns : goal.returns
returns g c = λ test is.
    c.max.ensures
    ∙ run_over test c.args.text.now c.args.at c.loop-i.i (c.loop-i.invariant test is) c.loop-i.auto.i-end c.loop-i-test.false
