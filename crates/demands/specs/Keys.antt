-- Document 02, CR 5, sentence by sentence: what the keys are, who writes them, and that they decide nothing. `the-keys` (proofs/Keys.antt) says that `TheKeys` holds of
-- whatever is lent. That "A clause is compared in full only where keys agree" is what the one function that compares clauses requires (`symmetry::is_image`). Assumes nothing.
use Rattle.std.specs.Prelude.{◌≡◌, true, cond, List, [], ◌↔◌, ℕ, ◌%◌, ◌≤◌, ◌<◌, length, get_or, eqb}
use Rattle.lists.specs.Tests.{all_of}
use Rattle.lists.specs.Writing.{overwritten}
use Rattle.store.specs.Refusals.{done, refused, said}
use Rattle.store.specs.Literals.{is_literal}
use Rattle.store.specs.Stores.{plain_of, is_formed, max_variables, max_rows}
use Rattle.numbers.specs.Numbers.{numbers, count_range, WellChosen}
use Rattle.keys.specs.Keys.{different, key_of, keys_of}
use Rattle.standing.specs.Keyed.{Keyed, well_formed}
use Rattle.opening.specs.Opening.{formula_of}
use Rattle.symmetry.specs.Sets.{SameSet}
use Rattle.offering.specs.Offering.{offered_by}
use Rattle.calls.specs.Calls.{Dimensions, open_says, open_store, offer_says, offer_store, withdraw_store}

module _ (s : Keyed) where
  -- each clause has a key, and it is its own
  pub record EachRight : Type 0 where
    pub long : length (plain_of s.store) ≤ length s.keys
    pub right : (c : ℕ) → c < length (plain_of s.store) → get_or s.keys c 0 ≡ key_of (get_or (plain_of s.store) c [])

  pub record TheKeys : Type 0 where
    -- "The team picks the 1,024 numbers, no two alike and none 0"
    pub chosen : WellChosen numbers
    -- "the wrapping sum of one fixed number for each different literal": clauses with the same literals have the same key, repeats and order notwithstanding
    pub alike : (a b : List ℕ) → SameSet a b → key_of a ≡ key_of b
    -- by our choice of the numbers the last eleven bits of a key are the count of these literals, as docs/KEYS.md says
    pub counts : (clause : List ℕ) → all_of (is_literal max_variables) clause ≡ true → key_of clause % count_range ≡ length (different clause)
    -- opening writes one a clause, and "Entries past those in use stay"; no other call writes keys
    pub opened : (text : List ℕ) (sizes : Dimensions) → open_says s text ≡ done sizes → (open_store s text).keys ≡ overwritten (keys_of (formula_of text)) s.keys
    pub offered : (names values : List ℕ) → (offer_store s names values).keys ≡ s.keys
    pub withdrawn : (withdraw_store s).keys ≡ s.keys
    -- "A stored key that isn't its clause's sum counts as badly formed, so 21 covers it"
    pub form : (well_formed s ≡ true) ↔ ((is_formed s.store ≡ true) × EachRight)
    -- "No permutation is decided otherwise than before, even where two clauses share a key": once the store stands, what is said of an offer knows no keys
    pub decides : s.store.counts.is_open ≡ true → well_formed s ≡ true → (names values : List ℕ)
        → offer_says s names values ≡ cond (eqb s.store.counts.rows max_rows) (refused 22 0) (said (offered_by s.store names values))
