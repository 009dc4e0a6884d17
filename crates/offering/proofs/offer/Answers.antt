-- `offering::offer` meets its contract: the lines state a permutation, its row is filled in scratch memory and checked, to move something and to be a
-- symmetry, and then appended. Assumes nothing.
use Rattle.std.proofs.Common.{◌≡◌, ◌≤◌, ◌+◌, ◌*◌, ℕ, Ok, List, replicate, sym, ap, ◌∙◌, arith}
use Rattle.std.proofs.lemmas.Result.{err_from_is_err_and}
use native.Mathlib.Nat.{mul-le-mul}
use Rattle.store.specs.Stores.{Store, lent, plain_of, appended}
use Rattle.store.proofs.Formed.{Formed, formed}
use Rattle.store.proofs.Within.{store-formula}
use Rattle.permutation.proofs.Theorem.{stated-row}
use Rattle.symmetry.proofs.Facts.{fits_row}
use Rattle.offering.proofs.OfferLaws.{RowRead, row_read, not-stated, not-moving, not-symmetric, no_room, held}
use Rattle.offering.proofs.offer.Goals as goal
use Rattle.offering.proofs.offer.Goals.{Start, In_ok-state}

abbrev S : Start → Store
S c = lent c.args.counts c.args.literals.now c.args.ends.now c.args.images.now

facts : (c : Start) → Formed (S c)
facts c = formed (S c) c.requires.0

pub state-requires : goal.state-requires
state-requires c = let small = (facts (goal.at.state-requires c).Start).variables-fit in (small, small)

pub returns-in_err-state-clause-answer : goal.returns-in_err-state-clause-answer
returns-in_err-state-clause-answer c =
    let p = err_from_is_err_and c.from_residual.result c.from_residual.ensures.1 in
    rw (p.1, p.2) (sym (not-stated (S (goal.at.returns-in_err-state-clause-answer c).Start) _ _ _ (sym c.state.ensures.answer ∙ c.in_err-state.was)))

-- the row that the two lines state
read : (c : In_ok-state) → let a = c.args in
    RowRead (lent a.counts a.literals.now a.ends.now a.images.now) a.names.now a.values.now c.state.new.row
read c =
    let a = c.args in
    let s = lent a.counts a.literals.now a.ends.now a.images.now in
    let was : c.state.result ≡ Ok tt = c.in_ok-state.was in
    row_read s a.names.now a.values.now (replicate 512 0) c.state.new.row (sym c.state.ensures.answer ∙ was) (c.state.ensures.row was) (formed s c.requires.0).variables-fit

pub slice_bounds-row-end : goal.slice_bounds-row-end
slice_bounds-row-end c = (read c).long

pub slice_bounds-row-end-2 : goal.slice_bounds-row-end-2
slice_bounds-row-end-2 c = sym (read (goal.at.slice_bounds-row-end-2 c).In_ok-state).size

pub invariant_of-row : goal.invariant_of-row
invariant_of-row c =
    let r = read (goal.at.invariant_of-row c).In_ok-state in
    let small = (facts (goal.at.invariant_of-row c).Start).variables-fit in
    record { formed = record { small = omega (arith, r.size); good = rw r.size (rw r.part (stated-row _ _ _ r.stated)) } }

pub returns-then-moves_nothing-clause-answer : goal.returns-then-moves_nothing-clause-answer
returns-then-moves_nothing-clause-answer c =
    sym (not-moving (read (goal.at.returns-then-moves_nothing-clause-answer c).In_ok-state) _ c.moves_nothing.ensures c.if-moves_nothing.true)

pub invariant_of-clauses : goal.invariant_of-clauses
invariant_of-clauses c = record { formed = store-formula (S (goal.at.invariant_of-clauses c).Start) c.requires.0 }

pub invariant_of-keyed : goal.invariant_of-keyed
unfolding plain_of
invariant_of-keyed c = record { right = c.requires.1 }

pub first_missing-requires : goal.first_missing-requires
unfolding plain_of
first_missing-requires c =
    let r = read (goal.at.first_missing-requires c).In_ok-state in
    (fits_row (S (goal.at.first_missing-requires c).Start) _ c.requires.0 r.size, c.requires.3)

pub returns-in-Some-clause-answer : goal.returns-in-Some-clause-answer
unfolding plain_of
returns-in-Some-clause-answer c =
    sym (not-symmetric (read (goal.at.returns-in-Some-clause-answer c).In_ok-state) _ c.moves_nothing.ensures c.if-moves_nothing.false _ c.first_missing.ensures _ c.in-Some.is)

pub overflow_mul-needed : goal.overflow_mul-needed
overflow_mul-needed c =
    let few : c.args.counts.rows + 1 ≤ 64 = omega (arith, c.requires.2) in
    let most : (c.args.counts.rows + 1) * c.args.counts.variables ≤ 64 * 512 = mul-le-mul few (facts (goal.at.overflow_mul-needed c).Start).variables-fit in
    omega arith

pub returns-then-images-needed-clause-answer : goal.returns-then-images-needed-clause-answer
unfolding plain_of
returns-then-images-needed-clause-answer c =
    sym (no_room (read (goal.at.returns-then-images-needed-clause-answer c).In_ok-state) _ c.moves_nothing.ensures c.if-moves_nothing.false _ c.first_missing.ensures c.in_default.is c.if-images-needed.true)

pub append-requires : goal.append-requires
append-requires c = ((read (goal.at.append-requires c).In_ok-state).size, omega (arith, c.if-images-needed.false))

pub returns : goal.returns
unfolding plain_of
returns c =
    let r = read (goal.at.returns c).In_ok-state in
    record {
      answer = sym (held r _ c.moves_nothing.ensures c.if-moves_nothing.false _ c.first_missing.ensures c.in_default.is c.if-images-needed.false);
      images = c.append.ensures ∙ ap (λ (row : List ℕ). appended c.args.counts.variables c.args.counts.rows row c.args.images.now) r.part;
    }
