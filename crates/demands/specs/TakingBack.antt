-- Document 02, CR 3, sentence by sentence: what a withdrawal drops, and what is held after a list with withdrawals. `drops` (proofs/Withdrawal.antt) says that
-- `Drops` holds of every store from which a withdrawal is not refused, and `takes_back` (proofs/TakingBack.antt) that `TakesBack` holds of every lent store and
-- text for which opening answers, and every list of calls. Assumes nothing.
use Rattle.std.specs.Prelude.{◌≡◌, Bool, true, false, List, [], ◌∷◌, ◌++◌, ℕ, ◌+◌, ◌*◌, ◌≤◌, length}
use Rattle.lists.specs.Tests.{all_of}
use Rattle.store.specs.Refusals.{done}
use Rattle.store.specs.Stores.{held_rows, without_row}
use Rattle.standing.specs.Keyed.{Keyed, with_keys}
use Rattle.lexleader.specs.Made.{row_clauses, auxiliaries}
use Rattle.lexleader.specs.Store.{made_of, variables_of}
use Rattle.calls.specs.Calls.{accepted, taken_back, open_store, offer_says, withdraw_says, withdraw_store}
use Rattle.demands.specs.Lists.{Call, offer, withdraw, lend, lent_anew, after_call, after, offers_left}
use Rattle.demands.specs.Demand3.{left}

-- "Add a call that drops the newest row, with its clauses and auxiliaries."
pub record Drops (s : Keyed) : Type 0 where
  pub newest : List ℕ
  pub rows : held_rows s.store ≡ held_rows (withdraw_store s).store ++ (newest ∷ [])
  pub clauses : made_of s.store ≡ made_of (withdraw_store s).store ++ row_clauses (variables_of (withdraw_store s).store + 1) newest
  pub numbers : variables_of s.store ≡ variables_of (withdraw_store s).store + auxiliaries newest
  -- only the count falls: it "leaves entries past those then in use unchanged", and all others
  pub leaves : withdraw_store s ≡ with_keys (without_row s.store) s.keys

-- a call is not refused (lending is no call of ours), and none of a list is
abbrev pub Answers : Keyed → Call → Type 0
Answers s (offer names values) = offer_says s names values ≡ done accepted
Answers s withdraw = withdraw_says s ≡ done taken_back
Answers s (lend past) = Unit {0}

unfoldable pub NoneRefused : Keyed → List Call → Type 0
NoneRefused s [] = Unit {0}
NoneRefused s (call ∷ calls) = Answers s call × NoneRefused (after_call s call) calls

-- an offer or a withdrawal: no other images slice is lent
abbrev pub lends_none : Call → Bool
lends_none (offer names values) = true
lends_none withdraw = true
lends_none (lend past) = false

module _ (s : Keyed) (text : List ℕ) (calls : List Call) where
  -- the shorter list: "only the accepted offers not taken back"
  abbrev pub offers : List Call
  offers = offers_left (open_store s text) calls

  -- a store that gets these accepts each, and its "record and rows in use are those" after the longer list
  pub record GetsOnly (t : Keyed) : Type 0 where
    pub none-refused : NoneRefused t offers
    pub counts : (after t offers).store.counts ≡ (left s text calls).store.counts
    pub rows : held_rows (after t offers).store ≡ held_rows (left s text calls).store

  pub record TakesBack : Type 0 where
    -- "After every list of offers and withdrawals from a fresh opening": the store as it was opened
    pub itself : all_of lends_none calls ≡ true → GetsOnly (open_store s text)
    -- after every list, other images slices in between included: the same with any images slice that has room for the rows left
    pub anew : (images : List ℕ) → (left s text calls).store.counts.rows * (left s text calls).store.counts.variables ≤ length images → GetsOnly (lent_anew (open_store s text) images)
