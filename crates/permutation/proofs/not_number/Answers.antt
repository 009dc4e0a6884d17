-- `permutation::not_number` meets its contract. The invariant: the line's first word that is no number is the first such word from `at` on.
-- Assumes nothing.
use mathlib.Core.Path.{refl, sym, ◌∙◌}
use Rattle.dimacs.proofs.WordLaws.{no_word}
use Rattle.permutation.proofs.Walks.{word_read, word-refused}
use Rattle.permutation.proofs.Faults.{number-end, number-stray, number-on}
use native.Mathlib.Omega.{arith}
use Rattle.permutation.proofs.not_number.Goals as goal

pub loop-at-init : goal.loop-at-init
loop-at-init c = refl

pub returns-then-line-place : goal.returns-then-line-place
returns-then-line-place c = sym (c.loop-at.invariant ∙ number-end (no_word _ _ _ c.next_word-place.ensures c.if-line-place.true))

pub returns-in_default : goal.returns-in_default
returns-in_default c =
    let stray = word-refused _ _ _ c.next_word-place.ensures c.if-line-place.false _ (sym c.read.ensures ∙ c.in_default.is) in
    sym (c.loop-at.invariant ∙ number-stray stray)

pub loop-at-smaller : goal.loop-at-smaller
loop-at-smaller c = omega (arith, (word_read _ _ _ c.next_word-place.ensures _ _ (sym c.read.ensures ∙ c.in-Ok.is)).forward)

pub loop-at-preserved : goal.loop-at-preserved
loop-at-preserved c = c.loop-at.invariant ∙ number-on (word_read _ _ _ c.next_word-place.ensures _ _ (sym c.read.ensures ∙ c.in-Ok.is))
