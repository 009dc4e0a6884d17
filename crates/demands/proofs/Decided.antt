-- What decides an offer: the first of its tests that turns it back, or none. Assumes nothing.
use Rattle.std.proofs.Common.{Result, Ok, Err}
use mathlib.Core.Path.{◌≡◌, refl, ap, ◌∙◌}
use mathlib.Core.Bool.{Bool, true, false}
use mathlib.Core.List.{List}
use Prim.Native.Nat.{ℕ, ◌≤◌, ◌<◌}
use native.Mathlib.Omega.{arith}
use borrow.Author.Tests.{eqb-true, eqb-false, leb-true, leb-false}
use lib.Arith.{lt_of_le-ne}
use lib.ListN.{length}
use lib.Dec.{eqb, leb}
use Rattle.store.specs.Refusals.{done, refused, number_of, said_refused, said}
use Rattle.store.specs.Stores.{plain_of, max_rows}
use Rattle.store.specs.Identity.{moves_nothing}
use Rattle.store.specs.declared.refusal.Refusal.{Refusal}
use Rattle.store.proofs.Demands.{rest_of}
use Rattle.standing.specs.Keyed.{Keyed, well_formed}
use Rattle.standing.proofs.StandingLaws.{not-open, badly-formed, ready_of, its-form}
use Rattle.permutation.specs.Stated.{stated_by}
use Rattle.permutation.proofs.StateLaws.{stated-number}
use Rattle.symmetry.specs.Symmetry.{first_missing}
use Rattle.offering.specs.Offering.{row_for, images_needed, offered_by}
use Rattle.demands.proofs.OfferedBy.{not-stated, not-moving, not-symmetric, no_room, held}
use Rattle.calls.specs.Calls.{accepted, offer_says}
use Rattle.calls.proofs.CallLaws.{unready, full as is-full, tried}
use Rattle.demands.specs.Demand2.{States}

module _ (s : Keyed) (names values : List ℕ) where
  abbrev row : List ℕ
  row = row_for s.store names values

  -- the first judged clause whose image is missing
  abbrev missing : ℕ
  missing = first_missing row (plain_of s.store)

  -- what decides an offer, and what it then says
  pub data Decided : Type 0 where
    shut : s.store.counts.is_open ≡ false → offer_says s names values ≡ refused 20 0 → Decided
    misformed : well_formed s ≡ false → offer_says s names values ≡ refused 21 0 → Decided
    full : offer_says s names values ≡ refused 22 0 → Decided
    unstated : (r : Refusal) → number_of r ≤ 10 → offer_says s names values ≡ said_refused r → Decided
    idle : States s names values → moves_nothing row ≡ true → offer_says s names values ≡ refused 31 0 → Decided
    asymmetric : offer_says s names values ≡ refused 11 missing → Decided
    short : States s names values → length s.store.images < images_needed s.store → offer_says s names values ≡ refused 23 (images_needed s.store) → Decided
    taken : States s names values → moves_nothing row ≡ false → missing ≡ 0 → images_needed s.store ≤ length s.store.images → offer_says s names values ≡ done accepted → Decided

  -- an offer to such a store, by what `offering` says of it
  pub says : States s names values → {o : Result (Unit {0}) Refusal} → offered_by s.store names values ≡ o → offer_says s names values ≡ said o
  says a e = tried s names values (ready_of s a.opened a.formed) (λ full. omega (arith, a.not_full)) ∙ ap said e

  pub decided : Decided
  decided = standing s.store.counts.is_open refl (well_formed s) refl
    where
      stating : (a : States s names values) → (b : Bool) → moves_nothing row ≡ b → (c : Bool) → eqb missing 0 ≡ c → (d : Bool) → leb (images_needed s.store) (length s.store.images) ≡ d → Decided
      stating a true qb c qc d qd = idle a qb (says a (not-moving s.store names values a.stated qb))
      stating a false qb false qc d qd = asymmetric (says a (not-symmetric s.store names values a.stated qb missing refl (eqb-false missing 0 qc)))
      stating a false qb true qc false qd =
          let h = leb-false _ _ qd in
          short a h (says a (no_room s.store names values a.stated qb missing refl (eqb-true missing 0 qc) h))
      stating a false qb true qc true qd =
          let h = leb-true _ _ qd in
          taken a qb (eqb-true missing 0 qc) h (says a (held s.store names values a.stated qb missing refl (eqb-true missing 0 qc) h))

      rows : s.store.counts.is_open ≡ true → well_formed s ≡ true → (b : Bool) → eqb s.store.counts.rows max_rows ≡ b
          → (c : Result (Unit {0}) Refusal) → stated_by s.store.counts.variables names values ≡ c → Decided
      rows qo qf true qb c qc = full (is-full s names values (ready_of s qo qf) (eqb-true _ _ qb))
      rows qo qf false qb (Err r) qc =
          unstated r (stated-number s.store.counts.variables names values r qc)
          (tried s names values (ready_of s qo qf) (eqb-false _ _ qb) ∙ ap said (not-stated s.store names values r qc))
      rows qo qf false qb (Ok u) qc =
          stating
          (record { opened = qo; formed = qf; not_full = lt_of_le-ne (rest_of s.store (its-form s qf)).rows_fit (eqb-false _ _ qb); stated = qc })
          (moves_nothing row) refl (eqb missing 0) refl (leb (images_needed s.store) (length s.store.images)) refl

      standing : (a : Bool) → s.store.counts.is_open ≡ a → (b : Bool) → well_formed s ≡ b → Decided
      standing false qa b qb = shut qa (unready s names values Refusal.NotOpen (not-open s qa))
      standing true qa false qb = misformed qb (unready s names values Refusal.BadlyFormed (badly-formed s qa qb))
      standing true qa true qb = rows qa qb (eqb s.store.counts.rows max_rows) refl (stated_by s.store.counts.variables names values) refl
