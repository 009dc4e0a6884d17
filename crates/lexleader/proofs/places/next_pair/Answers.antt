-- `lexleader::places::next_pair` meets its contract. Assumes nothing.
use mathlib.Core.Path.{◌≡◌, refl, ◌∙◌}
use native.Mathlib.Omega.{arith}
use lib.ListN.{length}
use Rattle.lexleader.proofs.Marked.{marks-length, marked-past, marked-here}
use Rattle.lexleader.proofs.places.next_pair.Goals as goal

pub loop-i-init : goal.loop-i-init
loop-i-init c row are = refl

pub returns-then-not-marks-i : goal.returns-then-not-marks-i
returns-then-not-marks-i c row are = record {
  within = omega (arith, marks-length row are);
  onward = omega arith;
  same = c.loop-i.invariant row are;
  here = λ h. marked-here row are c.loop-i.i (omega arith) c.if-not-marks-i.true;
}

pub loop-i-preserved : goal.loop-i-preserved
loop-i-preserved c row are = c.loop-i.invariant row are ∙ marked-past row are c.loop-i.i (omega arith) c.if-not-marks-i.false

pub returns : goal.returns
returns c row are =
    let last : c.loop-i.i ≡ length c.args.marks.now = omega arith in
    record {
      within = omega (arith, marks-length row are);
      onward = omega arith;
      same = rw last at (c.loop-i.invariant row are);
      here = λ h. absurd (omega (arith, marks-length row are));
    }
