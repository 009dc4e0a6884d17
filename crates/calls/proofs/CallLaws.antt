-- What opening says and leaves, and what an offer says by each test that comes before its lines are read. Assumes nothing.
use Rattle.std.specs.Prelude.{Ok, Err}
use mathlib.Core.Path.{◌≡◌}
use mathlib.Core.List.{List}
use Prim.Native.Nat.{ℕ}
use borrow.Author.Tests.{eq-eqb, ne_eqb}
use Rattle.store.specs.Refusals.{refused, said_refused, said}
use Rattle.store.specs.Stores.{max_rows}
use Rattle.store.specs.declared.refusal.Refusal.{Refusal}
use Rattle.standing.specs.Keyed.{Keyed, standing_of}
use Rattle.offering.specs.Offering.{offered_by}
use Rattle.calls.specs.Calls.{offer_says}

module _ (s : Keyed) (names values : List ℕ) where
  pub unready : (refusal : Refusal) → standing_of s ≡ Err refusal → offer_says s names values ≡ said_refused refusal
  unfolding offer_says
  unready refusal e = rw e

  module _ (ready : standing_of s ≡ Ok s.store) where
    pub full : s.store.counts.rows ≡ max_rows → offer_says s names values ≡ refused 22 0
    unfolding offer_says
    full e = rw (ready, eq-eqb s.store.counts.rows max_rows e)

    pub tried : (s.store.counts.rows ≡ max_rows → ⊥) → offer_says s names values ≡ said (offered_by s.store names values)
    unfolding offer_says
    tried n = rw (ready, ne_eqb s.store.counts.rows max_rows n)
