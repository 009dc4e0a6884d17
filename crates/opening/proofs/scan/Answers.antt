-- `opening::scan` meets its contract. Each turn judges one word, and the scan of the words from `at` on, from the locals, stays the answer.
-- Assumes nothing.
use Rattle.std.proofs.Common.{sym, ◌∙◌, arith}
use Rattle.dimacs.proofs.WordLaws.{read-refused}
use Rattle.comments.specs.Comments.{words_past}
use Rattle.comments.proofs.Walk.{no_word, next_word}
use Rattle.opening.proofs.NextNumber.{NextNumber, body-found}
use Rattle.opening.proofs.ScanLaws.{scan-done, scan-short, scan-extra, scan-word, scan-close, scan-beyond, scan-many, scan-literal}
use Rattle.opening.proofs.scan.Goals as goal
use Rattle.opening.proofs.scan.Goals.{In-Ok}

pub returns-then-place-text : goal.returns-then-place-text
returns-then-place-text c =
    let here = next_word _ _ _ c.next_word-place.ensures c.if-place-text.true in
    sym (c.loop-closed.invariant.3 ∙ scan-extra _ _ _ _ _ _ _ _ here c.if-closed-m.true)

pub returns-then-closed-m : goal.returns-then-closed-m
returns-then-closed-m c =
    sym (c.loop-closed.invariant.3 ∙ scan-done _ _ _ _ _ _ (no_word _ _ _ c.next_word-place.ensures c.if-place-text.false) c.if-closed-m.true)

pub returns-then-text-place : goal.returns-then-text-place
returns-then-text-place c =
    sym (c.loop-closed.invariant.3 ∙ scan-short _ _ _ _ _ _ (no_word _ _ _ c.next_word-place.ensures c.if-text-place.true) c.if-closed-m.false)

pub returns-in_default : goal.returns-in_default
returns-in_default c =
    let here = next_word _ _ _ c.next_word-place.ensures c.if-text-place.false in
    let bad = read-refused _ _ _ (sym c.read.ensures ∙ c.in_default.is) in
    sym (c.loop-closed.invariant.3 ∙ scan-word _ _ _ _ _ _ _ _ here c.if-closed-m.false bad.0)

-- the number that was read
found : (c : In-Ok) → NextNumber c.args.text.now (words_past c.args.text.now) c.loop-closed.at c.next_word-place.result c.in-Ok.number c.in-Ok.next.at
found c = body-found _ _ _ c.next_word-place.ensures _ _ (sym c.read.ensures ∙ c.in-Ok.is)

pub returns-then-n-variable : goal.returns-then-n-variable
returns-then-n-variable c =
    let f = found (goal.at.returns-then-n-variable c).In-Ok in
    sym (c.loop-closed.invariant.3 ∙ scan-beyond _ _ _ _ _ _ _ _ f.words c.if-closed-m.false _ f.number c.if-variable-eq0.false c.if-n-variable.true)

pub returns-then-count-eq-MAX_LITERALS : goal.returns-then-count-eq-MAX_LITERALS
returns-then-count-eq-MAX_LITERALS c =
    let f = found (goal.at.returns-then-count-eq-MAX_LITERALS c).In-Ok in
    sym
    (c.loop-closed.invariant.3
    ∙ scan-many _ _ _ _ _ _ _ _ f.words c.if-closed-m.false _ f.number c.if-variable-eq0.false c.if-n-variable.false c.if-count-eq-MAX_LITERALS.true)

pub loop-closed-smaller-then-variable-eq0 : goal.loop-closed-smaller-then-variable-eq0
loop-closed-smaller-then-variable-eq0 c = omega (arith, found (goal.at.loop-closed-smaller-then-variable-eq0 c).In-Ok)

pub loop-closed-preserved-then-variable-eq0 : goal.loop-closed-preserved-then-variable-eq0
loop-closed-preserved-then-variable-eq0 c =
    let f = found (goal.at.loop-closed-preserved-then-variable-eq0 c).In-Ok in (
      f.between,
      omega arith,
      omega arith,
      c.loop-closed.invariant.3 ∙ scan-close _ _ _ _ _ _ _ _ f.words c.if-closed-m.false _ f.number c.if-variable-eq0.true,
    )

pub loop-closed-smaller : goal.loop-closed-smaller
loop-closed-smaller c = omega (arith, found (goal.at.loop-closed-smaller c).In-Ok)

pub loop-closed-preserved : goal.loop-closed-preserved
loop-closed-preserved c =
    let f = found (goal.at.loop-closed-preserved c).In-Ok in (
      f.between,
      omega arith,
      omega arith,
      c.loop-closed.invariant.3
          ∙ scan-literal _ _ _ _ _ _ _ _ f.words c.if-closed-m.false _ f.number c.if-variable-eq0.false c.if-n-variable.false c.if-count-eq-MAX_LITERALS.false,
    )
