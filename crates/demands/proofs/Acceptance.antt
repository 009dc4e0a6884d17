-- Demand 2, first half: a permutation is accepted exactly when it is a symmetry of the formula and moves something, the input rules and limits
-- permitting, and the row that is then held is the one that the two lines state. Assumes nothing.
use mathlib.Core.Path.{◌≡◌, refl, ap, ◌∙◌}
use mathlib.Core.Bool.{true}
use mathlib.Core.List.{List, [], ◌∷◌, ◌++◌}
use mathlib.Core.Logic.{◌↔◌}
use Prim.Native.Nat.{ℕ}
use native.Mathlib.Omega.{arith}
use Rattle.store.specs.Refusals.{done, refused}
use Rattle.store.specs.Stores.{plain_of, held_rows, is_row, with_row}
use Rattle.store.specs.Identity.{MovesSomething}
use Rattle.store.proofs.Formed.{formed, row_of}
use Rattle.store.proofs.Identity.{moves-something-iff}
use Rattle.store.proofs.RowChanges.{with-row-held, with-row-formed}
use Rattle.store.proofs.Within.{literals-within}
use Rattle.standing.specs.Keyed.{Keyed, with_keys, well_formed}
use Rattle.standing.proofs.StandingLaws.{its-form, same-clauses}
use Rattle.permutation.proofs.RowLaws.{row-length}
use Rattle.permutation.proofs.Theorem.{stated-row}
use Rattle.symmetry.specs.Symmetry.{IsSymmetry, first_missing}
use Rattle.symmetry.proofs.Theorem.{none-missing-iff}
use Rattle.offering.specs.Offering.{row_for}
use Rattle.demands.proofs.OfferedBy.{held}
use Rattle.calls.specs.Calls.{accepted, offer_says, offer_store}
use Rattle.demands.specs.Demand2.{Permitted}
use Rattle.demands.proofs.Decided.{Decided, shut, misformed, full, unstated, idle, asymmetric, short, taken, says, decided}

module _ (s : Keyed) (names values : List ℕ) where
  abbrev row : List ℕ
  row = row_for s.store names values

  is-row : Permitted s names values → is_row s.store.counts.variables row ≡ true
  is-row p = stated-row s.store.counts.variables names values p.states.stated

  symmetry-iff : Permitted s names values → (first_missing row (plain_of s.store) ≡ 0) ↔ IsSymmetry row (plain_of s.store)
  symmetry-iff p =
      none-missing-iff s.store.counts.variables row (plain_of s.store) (row_of s.store.counts.variables row (is-row p))
      (literals-within s.store (formed s.store (its-form s p.states.formed)))

  -- Demand 2: two lines are accepted exactly when they state, by the input rules and limits, a permutation that is a symmetry and moves something.
  abbrev Acceptance : Type 0
  Acceptance = Permitted s names values × IsSymmetry row (plain_of s.store) × MovesSomething row

  acceptance-of : offer_says s names values ≡ done accepted → Acceptance
  acceptance-of said = by (decided s names values)
    where
      turned : {number place : ℕ} → offer_says s names values ≡ refused number place → Acceptance
      turned e = let z : ◌≡◌ {A = ℕ} 0 1 = cc in absurd (omega arith)

      by : Decided s names values → Acceptance
      by (shut q e) = turned e
      by (misformed q e) = turned e
      by (full e) = turned e
      by (unstated r h e) = turned e
      by (idle a h e) = turned e
      by (asymmetric e) = turned e
      by (short a h e) = turned e
      by (taken a moving none room e) =
          let p : Permitted s names values = record { states = a; room = room } in
          (p, (symmetry-iff p).0 none, (moves-something-iff row).0 moving)

  pub accepted-iff : (offer_says s names values ≡ done accepted) ↔ Acceptance
  accepted-iff = (
    acceptance-of,
    λ all. let p = all.0 in says s names values p.states (held s.store names values p.states.stated ((moves-something-iff row).1 all.2) _ refl ((symmetry-iff p).1 all.1) p.room),
  )

  -- ---- what an offer leaves

  pub store-refused : (number place : ℕ) → offer_says s names values ≡ refused number place → offer_store s names values ≡ s
  unfolding offer_store
  store-refused number place e = rw e

  module _ (said : offer_says s names values ≡ done accepted) where
    pub store-accepted : offer_store s names values ≡ with_keys (with_row s.store row) s.keys
    unfolding offer_store
    store-accepted = rw said

    pub permitted : Permitted s names values
    permitted = (acceptance-of said).0

    -- the rows held afterwards are those held before and the one that the lines state, and the store stays well formed
    pub accepted-held : held_rows (offer_store s names values).store ≡ held_rows s.store ++ (row ∷ [])
    accepted-held = ap (λ (t : Keyed). held_rows t.store) store-accepted ∙ with-row-held s.store row (row-length s.store.counts.variables names values) permitted.room

    pub accepted-formed : well_formed (offer_store s names values) ≡ true
    unfolding plain_of
    accepted-formed =
        let form = with-row-formed s.store row (row-length s.store.counts.variables names values) permitted.room (its-form s permitted.states.formed) (is-row permitted) permitted.states.not_full in
        ap well_formed store-accepted ∙ same-clauses s (with_row s.store row) refl permitted.states.formed form
