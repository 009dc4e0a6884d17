-- `symmetry::is_image` meets its contract. Assumes nothing.
use Rattle.std.proofs.Common.{sym, ◌∙◌, arith}
use Rattle.lists.specs.Tests.{has}
use Rattle.lists.proofs.Members.{all-at}
use Rattle.lists.proofs.Steps.{all-drop-miss, all-drop-hit, all-drop-end}
use Rattle.store.specs.Literals.{is_literal}
use Rattle.store.specs.Stores.{max_variables}
use Rattle.symmetry.specs.Sets.{within}
use Rattle.symmetry.proofs.KeyLaws.{same-by-part, has-marked, has-not_marked}
use Rattle.symmetry.proofs.is_image.Goals as goal
use Rattle.symmetry.proofs.is_image.Goals.{After-from}

-- each literal of the clause among those that have the mark is enough, as the keys agree
pub loop-code-init : goal.loop-code-init
unfolding within
loop-code-init c image s = same-by-part image c.args.clause.now s.literals c.requires.1 (c.args.sought.known image s ∙ sym c.requires.0)

pub place-requires : goal.place-requires
place-requires c = rw c.from.ensures (all-at (is_literal max_variables) c.args.clause.now 0 c.requires.1 c.loop-code.code-index (omega arith))

pub returns-then-marks-place : goal.returns-then-marks-place
returns-then-marks-place c image s =
    let good = place-requires (goal.at.returns-then-marks-place c).After-from in
    let none = has-not_marked c.args.sought.mark image c.args.sought.marks.now s.marked c.from.result _ good c.place.ensures.0 c.if-marks-place.true in
    sym (c.loop-code.invariant image s ∙ all-drop-miss (has image) _ c.loop-code.code-index 0 (omega arith) (rw c.from.ensures at none))

pub loop-code-preserved : goal.loop-code-preserved
loop-code-preserved c image s =
    let good = place-requires (goal.at.loop-code-preserved c).After-from in
    let found = has-marked c.args.sought.mark image c.args.sought.marks.now s.marked c.from.result _ good c.place.ensures.0 c.if-marks-place.false in
    c.loop-code.invariant image s ∙ all-drop-hit (has image) _ c.loop-code.code-index 0 (omega arith) (rw c.from.ensures at found)

pub returns : goal.returns
returns c image s = sym (c.loop-code.invariant image s ∙ all-drop-end (has image) _ c.loop-code.code-index (omega arith))
