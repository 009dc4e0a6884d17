-- `packed::writer::finish` meets its contract: the begun word with its digits shifted up is the last word of the values. Assumes nothing.
use native.Mathlib.Omega.{arith}
use Rattle.packed.specs.Words.{word_count}
use Rattle.packed.proofs.Writing.{finished-whole, finished-begun}
use Rattle.packed.proofs.writer.finish.Goals as goal

pub returns-then-rest-eq0 : goal.returns-then-rest-eq0
unfolding word_count
returns-then-rest-eq0 c = record {
  words = omega arith;
  buffer = λ values old h. finished-whole h (omega arith) (omega arith);
}

pub returns : goal.returns
unfolding word_count
returns c = record {
  words = omega arith;
  buffer = λ values old h. finished-begun h (omega arith) (omega arith);
}
