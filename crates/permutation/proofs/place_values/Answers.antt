-- `permutation::place_values` meets its contract. The invariant: each value before `at` has used a name and stands in the row, and the line's first
-- bad value is the first from `at` on (`Using`). Assumes nothing.
use Rattle.std.proofs.Common.{◌≤◌, ◌<◌, length, refl, sym, ◌∙◌, arith}
use lib.ListN.{length-set}
use Rattle.dimacs.proofs.WordLaws.{piece_at, no_word}
use Rattle.store.specs.Literals.{is_literal}
use Rattle.store.specs.Numerals.{code_in}
use Rattle.store.proofs.FormLaws.{literal-zero}
use Rattle.permutation.proofs.Walks.{Word, word_read, word-refused}
use Rattle.permutation.proofs.NameLaws.{Passes, size-read, size-range, size_none, size-some}
use Rattle.permutation.proofs.Using.{using-none, using-few, using-all, using-outside, using-taken, Step, using-step, using-more}
use Rattle.permutation.proofs.place_values.Goals as goal
use Rattle.permutation.proofs.place_values.Goals.{In-Ok, In-Some, Else-not-free-size}

pub loop-n-init : goal.loop-n-init
loop-n-init c = let pre = c.requires in (using-none pre.1 _ _ _ pre.2 pre.3 pre.4, refl)

pub returns-then-used-order-clause-answer : goal.returns-then-used-order-clause-answer
returns-then-used-order-clause-answer c =
    sym (using-few c.requires.1 c.loop-n.invariant.0 (no_word _ _ _ c.next_word-place.ensures c.if-values-place.true) c.if-used-order.true)

pub returns-then-values-place : goal.returns-then-values-place
returns-then-values-place c =
    let all = using-all c.requires.1 c.loop-n.invariant.0 (no_word _ _ _ c.next_word-place.ensures c.if-values-place.true) c.if-used-order.false in
    record { answer = sym all.0; row = λ _. all.1 }

pub returns-in_default-clause-answer : goal.returns-in_default-clause-answer
returns-in_default-clause-answer c =
    let stray = word-refused _ _ _ c.next_word-place.ensures c.if-values-place.false _ (sym c.read.ensures ∙ c.in_default.is) in
    sym (using-outside c.requires.1 c.loop-n.invariant.0 stray.words (literal-zero _ _ (omega (arith, stray.code))))

-- the number that `read` found, and what `size_of` says of it
found : (c : In-Ok) → Word c.args.values.now c.loop-n.at c.next_word-place.result c.in-Ok.number c.in-Ok.next.at
found c = word_read _ _ _ c.next_word-place.ensures _ _ (sym c.read.ensures ∙ c.in-Ok.is)

pub returns-in_default-size_of-clause-answer : goal.returns-in_default-size_of-clause-answer
returns-in_default-size_of-clause-answer c =
    let w = found (goal.at.returns-in_default-size_of-clause-answer c).In-Ok in
    sym (using-outside c.requires.1 c.loop-n.invariant.0 w.words (size_none (is_literal _) _ _ (size-read (is_literal _) _ w c.size_of.ensures) c.in_default-size_of.is))

sized : (c : In-Some) → Passes (is_literal c.args.n) (code_in (piece_at c.args.values.now c.next_word-place.result)) c.in-Some.size
sized c =
    let w = word_read _ _ _ c.next_word-place.ensures _ _ (sym c.read.ensures ∙ c.in-Ok.is) in
    size-some (is_literal _) _ _ (size-read (is_literal _) _ w c.size_of.ensures) _ c.in-Some.is

small : (c : In-Some) → c.in-Some.size < 513
small c = omega (arith, size-range _ _ (λ code l. l) (sized c), c.requires.0)

pub bounds-free-size : goal.bounds-free-size
bounds-free-size c = small (goal.at.bounds-free-size c).In-Some

pub returns-then-not-free-size-clause-answer : goal.returns-then-not-free-size-clause-answer
returns-then-not-free-size-clause-answer c =
    let place = goal.at.returns-then-not-free-size-clause-answer c in
    sym (using-taken c.requires.1 c.loop-n.invariant.0 (found place.In-Ok).words _ (sized place.In-Some) c.if-not-free-size.true)

-- the value is free, so that a name is left for it, and there is room for both in the row
fits : (c : Else-not-free-size) → Step c.args.n c.args.order.now c.loop-n.used c.in-Some.size × (c.args.n ≤ 512) × (c.args.n ≤ length c.loop-n.row)
fits c =
    let inv = c.loop-n.invariant.0 in
    (using-step c.requires.1 inv _ c.if-not-free-size.false, c.requires.0, inv.placing.fits)

pub offset_bounds-order-used : goal.offset_bounds-order-used
offset_bounds-order-used c = omega (arith, fits (goal.at.offset_bounds-order-used c).Else-not-free-size)

pub bounds-order-used : goal.bounds-order-used
bounds-order-used c = (fits (goal.at.bounds-order-used c).Else-not-free-size).0.left

pub overflow_add-used : goal.overflow_add-used
overflow_add-used c = omega (arith, fits (goal.at.overflow_add-used c).Else-not-free-size)

pub overflow_cast-size : goal.overflow_cast-size
overflow_cast-size c = omega (arith, fits (goal.at.overflow_cast-size c).Else-not-free-size)

pub code-requires : goal.code-requires
code-requires c = omega (arith, fits (goal.at.code-requires c).Else-not-free-size)

pub overflow_sub-row : goal.overflow_sub-row
overflow_sub-row c = omega (arith, fits (goal.at.overflow_sub-row c).Else-not-free-size)

pub bounds-row-name : goal.bounds-row-name
bounds-row-name c = omega (arith, fits (goal.at.bounds-row-name c).Else-not-free-size)

pub loop-n-smaller : goal.loop-n-smaller
loop-n-smaller c = omega (arith, (found (goal.at.loop-n-smaller c).In-Ok).forward)

pub loop-n-preserved : goal.loop-n-preserved
loop-n-preserved c =
    let place = goal.at.loop-n-preserved c in (
      rw c.code.ensures
          (using-more c.requires.1 c.loop-n.invariant.0 _ c.if-not-free-size.false (found place.In-Ok) (sized place.In-Some) (small place.In-Some)),
      simp length-set c.loop-n.invariant.1,
    )
