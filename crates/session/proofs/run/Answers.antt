-- `session::run` meets its contract: the input's length and its `%` line decide, and a session that ends ready is a list of offers from a fresh opening.
-- Assumes nothing.
use mathlib.Core.Path.{◌≡◌, sym, ap, ◌∙◌}
use mathlib.Core.Bool.{true}
use mathlib.Core.List.{List}
use Prim.Native.Nat.{ℕ}
use Rattle.store.specs.Stores.{lent, closed_record}
use Rattle.standing.specs.Keyed.{Keyed, with_keys, well_formed}
use Rattle.session.specs.Session.{Ended, ended, session_of}
use Rattle.std.proofs.Common.{Result, Ok}
use Rattle.store.specs.Refusals.{said as told}
use Rattle.store.specs.declared.refusal.Refusal.{Refusal}
use Rattle.session.proofs.SessionLaws.{too_long, split_at, not-split}
use Rattle.session.proofs.Theorem.{ready-formed}
use Rattle.session.proofs.run.Goals as goal

-- the second part of the contract follows from the first
meets : (s : Keyed) (input : List ℕ) (answer : Result (Unit {0}) Refusal) (t : Keyed) → ended (told answer) t ≡ session_of s input
    → (ended (told answer) t ≡ session_of s input) × (answer ≡ Ok tt → well_formed t ≡ true)
meets s input answer t ends = (ends, formed)
  where
    formed : answer ≡ Ok tt → well_formed t ≡ true
    formed q =
        let ready = sym (ap (λ (end : Ended). end.said) ends) ∙ ap told q in
        ap (λ (end : Ended). well_formed end.store) ends ∙ (ready-formed s input ready).formed

pub returns-then-input-gt-MAX_INPUT : goal.returns-then-input-gt-MAX_INPUT
returns-then-input-gt-MAX_INPUT c =
    let s : Keyed = with_keys (lent closed_record c.args.literals.now c.args.ends.now c.args.images.now) c.args.keys.now in
    let law = too_long s c.args.input.now c.if-input-gt-MAX_INPUT.true in
    let all = meets _ c.args.input.now _ _ (rw c.bad_input.ensures (sym law)) in
    record { ends = all.0; formed = all.1 }

pub returns-in_default : goal.returns-in_default
returns-in_default c =
    let s : Keyed = with_keys (lent closed_record c.args.literals.now c.args.ends.now c.args.images.now) c.args.keys.now in
    let law = not-split s c.args.input.now c.if-input-gt-MAX_INPUT.false c.in_default.ensures in
    let all = meets _ c.args.input.now _ _ (rw c.bad_input-in_default.ensures (sym law)) in
    record { ends = all.0; formed = all.1 }

pub returns : goal.returns
returns c =
    let s : Keyed = with_keys (lent closed_record c.args.literals.now c.args.ends.now c.args.images.now) c.args.keys.now in
    let law = split_at s c.args.input.now c.if-input-gt-MAX_INPUT.false c.in-Some.at c.in-Some.ensures.1 in
    let all = meets s c.args.input.now _ _ (c.open_and_offer.ensures ∙ sym law) in
    record { ends = all.0; formed = all.1 }
