-- Document 02, CR 7, sentence by sentence: "Clauses that are always true". `always-true` (proofs/AlwaysTrue.antt) says that it holds. "A symmetry, in demand 2 too," is
-- `IsSymmetry` in `Demand2`'s `accepts`; what 11 gives is `no_symmetry` (Reasons.antt); "The others are still written out": `text` and `Demand3`'s `makes` are of all clauses.
-- Assumes nothing.
use Rattle.std.specs.Prelude.{◌≡◌, Bool, true, false, ◌↔◌, ℕ, ◌+◌, ◌*◌}
use mathlib.Core.List.{List, Memᴰ}
use Rattle.lists.specs.Tests.{all_of}
use Rattle.store.specs.Literals.{is_literal}
use Rattle.store.specs.Refusals.{done}
use Rattle.store.specs.Stores.{plain_of, is_row}
use Rattle.store.specs.Identity.{MovesSomething}
use Rattle.standing.specs.Keyed.{Keyed}
use Rattle.symmetry.specs.Judged.{has_opposites, judged}
use Rattle.symmetry.specs.Symmetry.{clause_image}
use Rattle.symmetry.specs.Former.{IsFormerSymmetry}
use Rattle.offering.specs.Offering.{row_for}
use Rattle.lexleader.specs.Models.{clause_holds, Model}
use Rattle.calls.specs.Calls.{accepted, offer_says}
use Rattle.demands.specs.Demand2.{Permitted}

pub record AlwaysTrue : Type 0 where
  -- "a contradictory pair of literals": i together with -i
  pub contradictory : (clause : List ℕ) → (has_opposites clause ≡ true) ↔ ((i : ℕ) × Memᴰ (2 * i) clause × Memᴰ (2 * i + 1) clause)
  -- "Such a clause forbids nothing": it holds under every assignment, and no other clause does
  pub forbids-nothing : (clause : List ℕ) → (has_opposites clause ≡ true) ↔ ((v : ℕ → Bool) → clause_holds v clause ≡ true)
  -- "so from now on offers are judged without it": by all other clauses, which have the models of them all
  pub judges : (formula : List (List ℕ)) (clause : List ℕ) → Memᴰ clause (judged formula) ↔ (Memᴰ clause formula × (has_opposites clause ≡ false))
  pub models : (n : ℕ) (formula : List (List ℕ)) (a : List Bool) → Model n (judged formula) a ↔ Model n formula a
  -- the image of a judged clause is one that would be judged, so that it is missing among the judged clauses just where it is missing among all
  pub image : (n : ℕ) (row clause : List ℕ) → is_row n row ≡ true → all_of (is_literal n) clause ≡ true → has_opposites (clause_image row clause) ≡ has_opposites clause
  -- "Every permutation accepted before is accepted still.", the input rules and limits permitting, as in demand 2, and but for the identity, which CR 8 turns back
  pub still : (s : Keyed) (names values : List ℕ) → Permitted s names values → IsFormerSymmetry (row_for s.store names values) (plain_of s.store)
      → MovesSomething (row_for s.store names values) → offer_says s names values ≡ done accepted
