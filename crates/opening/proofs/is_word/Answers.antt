-- `opening::is_word` meets its contract: the word is the part from `at` to where its run ends. Assumes nothing.
use Rattle.std.proofs.Common.{◌∙◌, arith}
use Rattle.dimacs.specs.Words.{is_word_byte}
use Rattle.dimacs.proofs.Runs.{run-within, run-part}
use Rattle.opening.proofs.SizeLaws.{same-pointwise}
use Rattle.opening.proofs.is_word.Goals as goal

pub slice_bounds-eq-end : goal.slice_bounds-eq-end
slice_bounds-eq-end c = omega (arith, run-within is_word_byte c.args.line.now c.args.at c.requires)

pub returns : goal.returns
returns c =
    rw (← run-part is_word_byte c.args.line.now c.args.at, ← c.word_end-end.ensures) (c.eq.ensures ∙ same-pointwise _ _)
