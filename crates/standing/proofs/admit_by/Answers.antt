-- `standing::admit_by` meets its contract. Assumes nothing.
use Rattle.std.proofs.Common.{◌≡◌, ℕ, List, sym, ap, ◌∙◌}
use Rattle.store.specs.Stores.{stored, plain_of}
use Rattle.keys.specs.Keys.{right_keys}
use Rattle.standing.proofs.StandingLaws.{not-open, badly-formed, not-formed, keys-decide, well-formed, ready_of}
use Rattle.standing.proofs.admit_by.Goals as goal
use Rattle.standing.proofs.admit_by.Goals.{After-are_right}

pub returns-then-not-s : goal.returns-then-not-s
returns-then-not-s c = rw (← c.s.view_is) (sym (not-open _ c.if-not-s.true))

pub returns-in_default : goal.returns-in_default
returns-in_default c = rw (← c.s.view_is) (sym (badly-formed _ c.if-not-s.false (not-formed _ c.in_default.ensures)))

-- what was tested are the keys of what is lent
tested : (c : After-are_right) → let s = c.s.inside in c.are_right.result ≡ right_keys (plain_of (stored s.counts s.literals s.ends s.images)) s.keys.now
unfolding plain_of
tested c = c.are_right.ensures ∙ ap (λ (f : List (List ℕ)). right_keys f c.s.inside.keys.now) (c.clauses.ensures ∙ ap plain_of c.in-Some.ensures)

pub returns-then-not-are_right : goal.returns-then-not-are_right
returns-then-not-are_right c =
    rw (← c.s.view_is)
    (sym (badly-formed _ c.if-not-s.false
    (keys-decide _ (rw c.in-Some.ensures at c.in-Some.store.formed) ∙ sym (tested (goal.at.returns-then-not-are_right c).After-are_right) ∙ c.if-not-are_right.true)))

pub returns : goal.returns
returns c =
    rw (← c.s.view_is, c.in-Some.ensures)
    (sym (ready_of _ c.if-not-s.false
    (well-formed _ (rw c.in-Some.ensures at c.in-Some.store.formed) (sym (tested (goal.at.returns c).After-are_right) ∙ c.if-not-are_right.false))))
