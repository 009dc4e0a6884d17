-- `measure::literal_bytes` meets its contract. Assumes nothing.
use Rattle.std.proofs.Common.{arith}
use Rattle.lists.proofs.Sums.{sum_step, sum-end}
use Rattle.lists.proofs.Members.{all-at}
use Rattle.store.specs.Literals.{is_literal}
use Rattle.store.specs.Stores.{max_variables}
use Rattle.store.proofs.FormLaws.{literal-high}
use Rattle.measure.specs.Shares.{word_bytes}
use Rattle.measure.proofs.literal_bytes.Goals as goal

pub word_bytes-sum-requires : goal.word_bytes-sum-requires
word_bytes-sum-requires c =
    literal-high max_variables _ (all-at (is_literal max_variables) c.args.literals.now 0 c.requires.1 c.loop-code.code-index c.loop-code-test.true)

pub loop-code-preserved : goal.loop-code-preserved
loop-code-preserved c =
    (omega arith, omega (arith, sum_step word_bytes c.args.literals.now c.loop-code.code-index 0 c.loop-code-test.true))

pub returns : goal.returns
returns c = (omega (arith, sum-end word_bytes c.args.literals.now c.loop-code.code-index (omega arith)), omega arith)
