-- `session::offer_lines` meets its contract. The invariant: what all value lines come to is what those from `from` on come to, offered to the store as
-- it is now. Assumes nothing.
use mathlib.Core.Path.{◌≡◌, refl, sym, ◌∙◌}
use Prim.Native.Nat.{ℕ, ◌+◌, ◌-◌}
use native.Mathlib.Omega.{arith}
use borrow.Author.Rules.{rules}
use lib.ListN.{take, drop}
use Rattle.dimacs.specs.Lines.{is_line_byte, lines_at}
use Rattle.dimacs.proofs.Runs.{run-within}
use Rattle.store.specs.Refusals.{said_refused}
use Rattle.store.specs.Stores.{lent}
use Rattle.standing.specs.Keyed.{Keyed, with_keys}
use Rattle.store.specs.declared.refusal.Refusal.{Refusal}
use Rattle.std.proofs.Common.{Ok, Err}
use Rattle.session.specs.Session.{Ended, ended, offer_all, offer_lines}
use Rattle.session.proofs.SessionLaws.{no_names, names-line, no-values, refused-line, accepted-line}
use Rattle.session.proofs.offer_lines.Goals as goal
use Rattle.session.proofs.offer_lines.Goals.{After-loop-from, In-Err, In_default, Then-input-at}

abbrev S : Then-input-at → Keyed
S c = with_keys (lent c.args.counts c.args.literals.now c.args.ends.now c.args.images.now) c.args.keys.now

pub returns-then-input-at : goal.returns-then-input-at
returns-then-input-at c =
    sym (no_names (S c) c.args.input.now c.args.at c.if-input-at.true)

pub overflow_add-from : goal.overflow_add-from
overflow_add-from c =
    omega (arith, run-within is_line_byte c.args.input.now c.args.at (omega arith))

pub loop-from-init : goal.loop-from-init
loop-from-init c = (refl, refl)

pub slice_bounds-offer-end : goal.slice_bounds-offer-end
slice_bounds-offer-end c =
    omega (arith, run-within is_line_byte c.args.input.now c.args.at (omega arith))

pub slice_bounds-offer-end-in-loop-from : goal.slice_bounds-offer-end-in-loop-from
slice_bounds-offer-end-in-loop-from c =
    omega (arith, run-within is_line_byte c.args.input.now c.loop-from.from (omega arith))

-- what the value lines from a place on come to, offered to a store
abbrev From : In-Err → Keyed → ℕ → Ended
From c held from =
    let a = c.args in
    offer_all held (take (c.line_end-names.result - a.at) (drop a.at a.input.now)) (lines_at a.input.now from)

-- the store at the head of the loop, and after the offer
abbrev held : In-Err → Keyed
held c = with_keys (lent c.loop-from.held c.args.literals.now c.args.ends.now c.loop-from.images) c.args.keys.now

abbrev left : In-Err → Keyed
left c =
    let a = c.args in
    with_keys (lent c.offer-offered.result.counts a.literals.now a.ends.now c.offer-offered.new.images) a.keys.now

-- the offer of the line at `from`, refused and accepted
turned : (c : In-Err) (refusal : Refusal) → c.offer-offered.result.answer ≡ Err refusal
    → From c (held c) c.loop-from.from ≡ ended (said_refused refusal) (left c)
turned c refusal q =
    let law = refused-line (held c) _ _ c.loop-from.from c.loop-from-test.true _ c.line_end-to.ensures in
    law _ (left c) c.offer-offered.ensures.says c.offer-offered.ensures.leaves refusal q

abbrev S-at-In-Err : In-Err → Keyed
S-at-In-Err c = with_keys (lent c.args.counts c.args.literals.now c.args.ends.now c.args.images.now) c.args.keys.now

-- the whole is what the loop has still to offer
whole : (c : In-Err)
    → offer_lines (S-at-In-Err c) (lines_at c.args.input.now c.args.at) ≡ From c (held c) c.loop-from.from
whole c =
    let a = c.args in
    names-line (S-at-In-Err c) a.input.now a.at c.if-input-at.false _ c.line_end-names.ensures ∙ c.loop-from.invariant.0

pub returns-in-Err : goal.returns-in-Err
returns-in-Err c =
    sym (whole c ∙ turned c _ c.in-Err.is)

pub overflow_add-from-in-loop-from : goal.overflow_add-from-in-loop-from
overflow_add-from-in-loop-from c =
    omega (arith, run-within is_line_byte c.args.input.now c.loop-from.from (omega (arith, c.loop-from-test.true)))

-- what the value lines from a place on come to, offered to a store
abbrev From-at-In_default : In_default → Keyed → ℕ → Ended
From-at-In_default c held from =
    let a = c.args in
    offer_all held (take (c.line_end-names.result - a.at) (drop a.at a.input.now)) (lines_at a.input.now from)

-- the store at the head of the loop, and after the offer
abbrev held-at-In_default : In_default → Keyed
held-at-In_default c = with_keys (lent c.loop-from.held c.args.literals.now c.args.ends.now c.loop-from.images) c.args.keys.now

abbrev left-at-In_default : In_default → Keyed
left-at-In_default c =
    let a = c.args in
    with_keys (lent c.offer-offered.result.counts a.literals.now a.ends.now c.offer-offered.new.images) a.keys.now

taken : (c : In_default) → c.offer-offered.result.answer ≡ Ok tt
    → From-at-In_default c (held-at-In_default c) c.loop-from.from ≡ From-at-In_default c (left-at-In_default c) (c.line_end-to.result + 1)
taken c q =
    let law = accepted-line (held-at-In_default c) _ _ c.loop-from.from c.loop-from-test.true _ c.line_end-to.ensures in
    law _ (left-at-In_default c) c.offer-offered.ensures.says c.offer-offered.ensures.leaves q

pub loop-from-preserved : goal.loop-from-preserved
loop-from-preserved c =
    (c.loop-from.invariant.0 ∙ taken c c.in_default.is, search rules)

-- what the value lines from a place on come to, offered to a store
abbrev From-at-After-loop-from : After-loop-from → Keyed → ℕ → Ended
From-at-After-loop-from c held from =
    let a = c.args in
    offer_all held (take (c.line_end-names.result - a.at) (drop a.at a.input.now)) (lines_at a.input.now from)

-- the store at the head of the loop, and after the offer
abbrev held-at-After-loop-from : After-loop-from → Keyed
held-at-After-loop-from c = with_keys (lent c.loop-from.held c.args.literals.now c.args.ends.now c.loop-from.images) c.args.keys.now

abbrev S-at-After-loop-from : After-loop-from → Keyed
S-at-After-loop-from c = with_keys (lent c.args.counts c.args.literals.now c.args.ends.now c.args.images.now) c.args.keys.now

-- the whole is what the loop has still to offer
whole-at-After-loop-from : (c : After-loop-from)
    → offer_lines (S-at-After-loop-from c) (lines_at c.args.input.now c.args.at) ≡ From-at-After-loop-from c (held-at-After-loop-from c) c.loop-from.from
whole-at-After-loop-from c =
    let a = c.args in
    names-line (S-at-After-loop-from c) a.input.now a.at c.if-input-at.false _ c.line_end-names.ensures ∙ c.loop-from.invariant.0

pub returns : goal.returns
returns c = sym (whole-at-After-loop-from c ∙ no-values _ _ _ c.loop-from.from (omega arith))
