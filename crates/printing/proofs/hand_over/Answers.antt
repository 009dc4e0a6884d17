-- `printing::hand_over` meets its contract: the page lies within the output, whose length has a bound, so the count does not wrap. Assumes nothing.
use Rattle.std.proofs.Common.{arith}
use Rattle.std.proofs.lemmas.Result.{IfOk-weaker}
use Rattle.program.specs.Program.{fresh_store}
use Rattle.program.proofs.OutputLength.{output-length}
use Rattle.printing.proofs.hand_over.Goals as goal

pub counted-requires : goal.counted-requires
counted-requires c =
    IfOk-weaker c.write.result _ _ (λ count e. omega (arith, e, c.requires.within, output-length fresh_store c.args.input.now)) c.write.ensures
