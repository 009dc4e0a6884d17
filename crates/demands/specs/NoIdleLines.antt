-- Document 02, CR 8, sentence by sentence: "No idle lines". `no-idle-lines` (proofs/NoIdleLines.antt) says that it holds. "where every value equals its name, after 10 and before 11"
-- is `moves_nothing` in `offer_reasons` (Reasons.antt); that an accepted permutation "moves something" is `Demand2`'s `accepts`. Assumes nothing.
use Rattle.std.specs.Prelude.{◌≡◌, true, ◌↔◌, ℕ, length}
use mathlib.Core.List.{List, ◌∷◌, ◌++◌, Memᴰ}
use Rattle.store.specs.Refusals.{done, refused}
use Rattle.store.specs.Stores.{held_rows, is_row, max_rows}
use Rattle.store.specs.Identity.{identity, MovesSomething}
use Rattle.standing.specs.Keyed.{Keyed, well_formed}
use Rattle.offering.specs.Offering.{row_for}
use Rattle.lexleader.specs.Made.{made, made_variables}
use Rattle.calls.specs.Calls.{Dimensions, open_says, offer_says}
use Rattle.demands.specs.Demand2.{States}
use Rattle.demands.specs.Lists.{Call}
use Rattle.demands.specs.Demand3.{left}

pub record NoIdleLines : Type 0 where
  -- "It is turned back from here on": with 31, place 0, exactly where the two lines state the identity, the rules before 31 permitting
  pub turns-back : (s : Keyed) (names values : List ℕ) (place : ℕ)
      → (offer_says s names values ≡ refused 31 place) ↔ (States s names values × (row_for s.store names values ≡ identity s.store.counts.variables) × (place ≡ 0))
  -- so no list of calls from a fresh opening leaves a row "of that sort": each moves something
  pub none-held : (s : Keyed) (text : List ℕ) (sizes : Dimensions) (calls : List Call) → open_says s text ≡ done sizes
      → (row : List ℕ) → Memᴰ row (held_rows (left s text calls).store) → MovesSomething row
  -- "Rows of that sort in an existing store remain well formed,": each is a row
  pub formed : (n : ℕ) → is_row n (identity n) ≡ true
  -- "add no clauses": wherever one stands among the rows, the made formula and its variables are those without it
  pub adds_none : (n : ℕ) (formula before after : List (List ℕ))
      → (made n formula (before ++ (identity n ∷ after)) ≡ made n formula (before ++ after))
      × (made_variables n (before ++ (identity n ∷ after)) ≡ made_variables n (before ++ after))
  -- "and count towards 64": with 64 rows held, whichever they are, an offer is refused with 22
  pub counts : (s : Keyed) (names values : List ℕ) → s.store.counts.is_open ≡ true → well_formed s ≡ true → length (held_rows s.store) ≡ max_rows
      → offer_says s names values ≡ refused 22 0
