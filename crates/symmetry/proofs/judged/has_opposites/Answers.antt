-- `symmetry::judged::has_opposites` meets its contract. Assumes nothing.
use Rattle.std.proofs.Common.{◌≡◌, get_or, refl, sym, ap, ◌∙◌, arith}
use lib.ListN.{length-map}
use Rattle.lists.specs.Tests.{has}
use Rattle.lists.proofs.Members.{all-at, map_at}
use Rattle.lists.proofs.Steps.{any-drop-hit, any-drop-miss, any-drop-end}
use Rattle.store.specs.Literals.{opposite_of, is_literal}
use Rattle.store.specs.Stores.{max_variables}
use Rattle.store.proofs.FormLaws.{opposite-within}
use Rattle.keys.specs.Marks.{sent_to, sent_clause}
use Rattle.keys.proofs.MarkLaws.{sent-literals}
use Rattle.symmetry.specs.Judged.{has_opposites}
use Rattle.symmetry.proofs.KeyLaws.{has-marked, has-not_marked}
use Rattle.symmetry.proofs.judged.has_opposites.Goals as goal
use Rattle.symmetry.proofs.judged.has_opposites.Goals.{After-opposite}

pub loop-code-init : goal.loop-code-init
unfolding has_opposites
loop-code-init c = refl

pub sent-requires : goal.sent-requires
sent-requires c = (rw c.from.ensures (all-at (is_literal max_variables) c.args.clause.now 0 c.requires.0 c.loop-code.code-index (omega arith)), c.requires.1)

-- it is the opposite of what the literal at hand is sent to
its : (c : After-opposite) → c.opposite.result ≡ opposite_of (get_or (sent_clause c.args.places.now c.args.clause.now) c.loop-code.code-index 0)
its c =
    c.opposite.ensures
    ∙ ap opposite_of
    (c.sent.ensures.0 ∙ ap (sent_to c.args.places.now) c.from.ensures ∙ sym (map_at (sent_to c.args.places.now) c.args.clause.now c.loop-code.code-index 0 0 (omega arith)))

pub place-requires : goal.place-requires
place-requires c =
    let a = c.args in
    let sent = sent_clause a.places.now a.clause.now in
    let inside = length-map a.clause.now (sent_to a.places.now) in
    rw (its c)
    (opposite-within max_variables (get_or sent c.loop-code.code-index 0)
    (all-at (is_literal max_variables) sent 0 (sent-literals a.places.now c.requires.1 a.clause.now c.requires.0) c.loop-code.code-index (omega arith)))

pub returns-then-marks-place : goal.returns-then-marks-place
returns-then-marks-place c =
    let a = c.args in
    let at = (goal.at.returns-then-marks-place c).After-opposite in
    let sent = sent_clause a.places.now a.clause.now in
    let inside = length-map a.clause.now (sent_to a.places.now) in
    let found = has-marked a.sought.mark sent a.sought.marks.now c.requires.2 c.opposite.result _ (place-requires at) c.place.ensures.0 c.if-marks-place.true in
    sym (c.loop-code.invariant ∙ any-drop-hit (λ code. has sent (opposite_of code)) sent c.loop-code.code-index 0 (omega arith) (rw (its at) at found))

pub loop-code-preserved : goal.loop-code-preserved
loop-code-preserved c =
    let a = c.args in
    let at = (goal.at.loop-code-preserved c).After-opposite in
    let sent = sent_clause a.places.now a.clause.now in
    let inside = length-map a.clause.now (sent_to a.places.now) in
    let none = has-not_marked a.sought.mark sent a.sought.marks.now c.requires.2 c.opposite.result _ (place-requires at) c.place.ensures.0 c.if-marks-place.false in
    c.loop-code.invariant ∙ any-drop-miss (λ code. has sent (opposite_of code)) sent c.loop-code.code-index 0 (omega arith) (rw (its at) at none)

pub returns : goal.returns
returns c =
    let a = c.args in
    let sent = sent_clause a.places.now a.clause.now in
    let inside = length-map a.clause.now (sent_to a.places.now) in
    sym (c.loop-code.invariant ∙ any-drop-end (λ code. has sent (opposite_of code)) sent c.loop-code.code-index (omega arith))
