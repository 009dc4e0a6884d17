-- Lists of calls on a store (document 01, "Permutations": "A list of offers starts at a store just opened .. Its offers are made in turn, refused ones
-- included. The first gets the store as opening left it, each later one as the offer before it left it"), with withdrawals in the list (document 02, CR 3).
-- Between two calls the host may lend another images slice that holds the rows in use, as a longer one after a 23. Assumes nothing.
use Rattle.std.specs.Prelude.{ℕ, ◌-◌, ◌*◌, List, [], ◌∷◌, ◌++◌, length, take}
use Rattle.store.specs.Refusals.{unless_refused}
use Rattle.store.specs.Stores.{lent}
use Rattle.standing.specs.Keyed.{Keyed, with_keys}
use Rattle.offering.specs.Offering.{row_for}
use Rattle.calls.specs.Calls.{offer_says, offer_store, withdraw_says, withdraw_store}

-- an offer of a names line and a value line; a withdrawal; or another images slice, the entries in use as they were and these past them
pub data Call : Type 0 where
  offer : List ℕ → List ℕ → Call
  withdraw : Call
  lend : List ℕ → Call

unfoldable pub lent_anew : Keyed → List ℕ → Keyed
lent_anew k past =
    let s = k.store in
    with_keys (lent s.counts s.literals s.ends (take (s.counts.rows * s.counts.variables) s.images ++ past)) k.keys

-- the store after one call, and after a list of calls
abbrev pub after_call : Keyed → Call → Keyed
after_call s (offer names values) = offer_store s names values
after_call s withdraw = withdraw_store s
after_call s (lend past) = lent_anew s past

unfoldable pub after : Keyed → List Call → Keyed
after s [] = s
after s (call ∷ calls) = after (after_call s call) calls

-- a list without its last
abbrev pub but_last : {A : Type 0} → List A → List A
but_last l = take (length l - 1) l

-- What is held after a call, oldest first, where an offer counts as some item: one that isn't refused is the newest, and "Each withdrawal that isn't refused
-- takes back the newest accepted permutation not yet taken back"
module _ {Item : Type 0} (item : Keyed → List ℕ → List ℕ → Item) where
  abbrev pub held_after : List Item → Keyed → Call → List Item
  held_after held s (offer names values) = unless_refused (offer_says s names values) (held ++ (item s names values ∷ [])) held
  held_after held s withdraw = unless_refused (withdraw_says s) (but_last held) held
  held_after held s (lend past) = held

  -- a walk through the list that carries what is held so far
  unfoldable pub held_from : List Item → Keyed → List Call → List Item
  held_from held s [] = held
  held_from held s (call ∷ calls) = held_from (held_after held s call) (after_call s call) calls

-- "the list's accepted permutations are those left at its end": what the offers state on their lines, in order, repeats included
abbrev pub accepted : Keyed → List Call → List (List ℕ)
accepted s calls = held_from (λ (t : Keyed). row_for t.store) [] s calls

-- "the accepted offers not taken back", in order, as a list of calls
abbrev pub offers_left : Keyed → List Call → List Call
offers_left s calls = held_from (λ (t : Keyed). offer) [] s calls
