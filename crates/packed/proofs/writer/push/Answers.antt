-- `packed::writer::push` meets its contract: the begun word takes k digits more, and goes into the buffer when it has 64. Assumes nothing.
use native.Mathlib.Omega.{arith}
use Rattle.packed.proofs.Writing.{shifted, longer-fits, begun_more, whole-more}
use Rattle.packed.proofs.writer.push.Goals as goal

pub overflow_add-word : goal.overflow_add-word
overflow_add-word c =
    let h = c.requires.0.holds in
    omega (arith, shifted h c.args.value c.args.k c.requires.3, longer-fits h c.args.value c.args.k c.requires.3, c.digits.ensures)

pub returns-then-taken-eq0 : goal.returns-then-taken-eq0
returns-then-taken-eq0 c values old h =
    whole-more h c.args.value c.args.k _ (omega (arith, shifted h c.args.value c.args.k c.requires.3, c.digits.ensures)) c.requires.3 c.requires.1 (omega arith) (omega arith)

pub returns : goal.returns
returns c values old h =
    begun_more h c.args.value c.args.k _ (omega (arith, shifted h c.args.value c.args.k c.requires.3, c.digits.ensures)) c.requires.3 (omega arith)
