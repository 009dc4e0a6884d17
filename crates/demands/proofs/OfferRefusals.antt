-- An offer refuses by its list of reasons: each of 7 to 11 by the walk that looks for it, and 31 by the row (OfferFirsts.antt). Assumes nothing.
use Rattle.std.proofs.Common.{Option, Some, None, Ok, Err}
use mathlib.Core.Path.{◌≡◌, refl, sym, ap, ◌∙◌}
use mathlib.Core.Bool.{Bool, true, false}
use mathlib.Core.List.{List, [], ◌∷◌}
use mathlib.Core.Logic.{inl, inr, ⊎_elim}
use Prim.Native.Nat.{ℕ, ◌+◌}
use native.Mathlib.Omega.{arith}
use borrow.Author.Tests.{eqb-true, eqb-false, ltb-true, ltb-false}
use lib.ListN.{length}
use lib.Dec.{eqb, ltb}
use Rattle.lists.proofs.Cases.{never}
use Rattle.dimacs.specs.Words.{Piece, words_at}
use Rattle.store.specs.Refusals.{Said, refused, said_refused, said as told}
use Rattle.store.specs.Stores.{plain_of, max_rows}
use Rattle.standing.specs.Keyed.{Keyed}
use Rattle.store.specs.Identity.{moves_nothing as moves_none}
use Rattle.store.specs.declared.refusal.Refusal.{Refusal}
use Rattle.permutation.specs.Lines.{not_number, bad_name as name_fault, bad_value_after, names_on}
use Rattle.permutation.specs.Stated.{stated_by}
use Rattle.permutation.proofs.Faults.{number-end, name-missing, name-first, name-end}
use Rattle.symmetry.specs.Symmetry.{missing_from, first_missing}
use Rattle.offering.specs.Offering.{row_for, images_needed, offered_by}
use Rattle.demands.proofs.OfferedBy.{not-stated, not-moving, not-symmetric, no_room, held as taken}
use Rattle.calls.specs.Calls.{Accepted, accepted, offer_says}
use Rattle.demands.specs.Reasons.{Reason, AllPass, Numeric, word_not_number, Name, bad_name, Value, bad_value, HasImage, no_symmetry, offer_reasons}
use Rattle.demands.proofs.Firsts.{none_yet, never_both, one-first, Walked, found, none}
use Rattle.demands.proofs.OfferFirsts.{seen-from, seen, fault_at, number_walk, number-walked, name_walk, name-walked, value_walk, value-walked, value-end, idle-iff, clause_walk, number_at, clause-walked}
use Rattle.demands.proofs.Refusing.{Exact, same-said, refuses, goes_on, where-true, too_short_lem, on_store_lem}

abbrev place_in : Piece → ℕ
place_in w = w.place

-- one reason, and what is left once it does not hold
module _ {said : Said Accepted} {reasons : List Reason} where
  number-exact : (k : ℕ) (line : List ℕ) → ((p : ℕ) → not_number (words_at line 0) ≡ Some p → said ≡ refused k p)
      → (not_number (words_at line 0) ≡ None → Exact reasons said) → Exact (word_not_number k line ∷ reasons) said
  number-exact k line to rest = by (number-walked (words_at line 0))
    where
      by : Walked Numeric number_walk fault_at (words_at line 0) → Exact (word_not_number k line ∷ reasons) said
      by (found f e) =
          refuses (word_not_number k line) f.it.place (f, refl) (λ p h. h.1 ∙ ap place_in (one-first Numeric h.0 f).1) (to f.it.place e)
      by (none all e) = goes_on (word_not_number k line) (λ p h. never_both Numeric all h.0) (rest (e ∙ number-end refl))

  name-exact : (n : ℕ) (line : List ℕ) → ((p : ℕ) → name_fault n (length line) (words_at line 0) ≡ Some p → said ≡ refused 8 p)
      → (name_fault n (length line) (words_at line 0) ≡ None → AllPass (Name n) (words_at line 0) → Exact reasons said)
      → Exact (bad_name n line ∷ reasons) said
  unfolding seen-from
  name-exact n line to rest = by (words_at line 0) refl (name-walked n (words_at line 0))
    where
      by : (words : List Piece) → words_at line 0 ≡ words → Walked (Name n) (name_walk n) fault_at (words_at line 0) → Exact (bad_name n line ∷ reasons) said
      by [] q walk =
          let all : AllPass (Name n) (words_at line 0) = rw q (none_yet (Name n)) in
          refuses (bad_name n line) (length line) (inr (q, refl))
          (λ p. ⊎_elim (λ h. absurd (never_both (Name n) all h.0)) (λ h. h.1))
          (to (length line) (name-missing n (length line) q))
      by (w ∷ words) q (found f e) =
          refuses (bad_name n line) f.it.place (inl (f, refl))
          (λ p. ⊎_elim (λ h. h.1 ∙ ap place_in (one-first (Name n) h.0 f).1) (λ h. let z : ◌≡◌ {A = ℕ} 0 1 = cc h.0 in absurd (omega arith)))
          (to f.it.place (name-first n (length line) q ∙ e))
      by (w ∷ words) q (none all e) =
          goes_on (bad_name n line)
          (λ p. ⊎_elim (λ h. never_both (Name n) all h.0) (λ h. let z : ◌≡◌ {A = ℕ} 0 1 = cc h.0 in omega arith))
          (rest (name-first n (length line) q ∙ e ∙ name-end n (seen (words_at line 0)) refl) all)

  symmetry-exact : (row : List ℕ) (formula : List (List ℕ)) → ((k : ℕ) → first_missing row formula ≡ k + 1 → said ≡ refused 11 (k + 1))
      → (first_missing row formula ≡ 0 → Exact reasons said) → Exact (no_symmetry row formula ∷ reasons) said
  unfolding missing_from
  symmetry-exact row formula to rest = by (clause-walked row formula)
    where
      by : Walked (HasImage row formula) (clause_walk row formula) (number_at row formula) formula → Exact (no_symmetry row formula ∷ reasons) said
      by (found f e) =
          refuses (no_symmetry row formula) (length f.before + 1) (f, refl)
          (λ p h. h.1 ∙ ap (λ (l : List (List ℕ)). length l + 1) (one-first (HasImage row formula) h.0 f).0)
          (to (length f.before) e)
      by (none all e) = goes_on (no_symmetry row formula) (λ p h. never_both (HasImage row formula) all h.0) (rest e)

module _ (n : ℕ) (names line : List ℕ) (named : AllPass (Name n) (words_at names 0)) where
  abbrev Passes : List Piece → Piece → Type 0
  Passes = Value (words_at names 0)

  abbrev too_few : Bool
  too_few = ltb (length (words_at line 0)) (length (words_at names 0))

  abbrev value_fault : Option ℕ
  value_fault = bad_value_after (names_on names) (length line) [] (words_at line 0)

  value-exact : {said : Said Accepted} {reasons : List Reason} → ((p : ℕ) → value_fault ≡ Some p → said ≡ refused 10 p)
      → (value_fault ≡ None → AllPass Passes (words_at line 0) → Exact reasons said) → Exact (bad_value (words_at names 0) line ∷ reasons) said
  unfolding seen-from
  value-exact {said} {reasons} to rest = by too_few refl (value-walked n (length line) names named (words_at line 0))
    where
      by : (t : Bool) → too_few ≡ t → Walked Passes (value_walk n (length line) names named) fault_at (words_at line 0) → Exact (bad_value (words_at names 0) line ∷ reasons) said
      by t q (found f e) =
          refuses (bad_value (words_at names 0) line) f.it.place (inl (f, refl))
          (λ p. ⊎_elim (λ h. h.1 ∙ ap place_in (one-first Passes h.0 f).1) (λ h. absurd (never_both Passes h.0 f)))
          (to f.it.place e)
      by true q (none all e) =
          refuses (bad_value (words_at names 0) line) (length line) (inr (all, ltb-true (length (words_at line 0)) (length (words_at names 0)) q, refl))
          (λ p. ⊎_elim (λ h. absurd (never_both Passes all h.0)) (λ h. h.2))
          (to (length line) (e ∙ value-end n (length line) names named (words_at line 0) ∙ rw q))
      by false q (none all e) =
          goes_on (bad_value (words_at names 0) line)
          (λ p. ⊎_elim (λ h. never_both Passes all h.0) (λ h. omega (arith, h.1, ltb-false (length (words_at line 0)) (length (words_at names 0)) q)))
          (rest (e ∙ value-end n (length line) names named (words_at line 0) ∙ rw q) all)

module _ (s : Keyed) (names values : List ℕ) where
  abbrev n : ℕ
  n = s.store.counts.variables

  abbrev said : Said Accepted
  said = told (offered_by s.store names values)

  turned : (r : Refusal) → stated_by n names values ≡ Err r → said ≡ said_refused r
  turned r e = ap told (not-stated s.store names values r e)

  pub offer-exact : Exact (offer_reasons s names values) (offer_says s names values)
  unfolding offer_says stated_by
  offer-exact =
      on_store_lem s
      (where-true (eqb s.store.counts.rows max_rows)
      (λ t. (eqb-true s.store.counts.rows max_rows t, rw t))
      (λ t. (
        eqb-false s.store.counts.rows max_rows t,
        same-said (rw t)
            (number-exact 7 names (λ p e. turned (Refusal.NameNotNumber p) (rw e)) (λ a.
            name-exact n names (λ p e. turned (Refusal.BadName p) (rw (a, e))) (λ b named.
            number-exact 9 values (λ p e. turned (Refusal.ValueNotNumber p) (rw (a, b, e))) (λ c.
            value-exact n names values named (λ p e. turned (Refusal.BadValue p) (rw (a, b, c, e))) (λ d valued.
            let stated : stated_by n names values ≡ Ok tt = rw (a, b, c, d) in
            let idle = idle-iff n names values named valued stated in
            where-true (moves_none (row_for s.store names values))
            (λ e. (idle.1 e, ap told (not-moving s.store names values stated e)))
            (λ moving. (
              λ same. never (sym moving ∙ idle.0 same),
              symmetry-exact (row_for s.store names values) (plain_of s.store)
                  (λ k e. ap told (not-symmetric s.store names values stated moving (k + 1) (sym e) (λ z. omega arith))) (λ e.
                  too_short_lem accepted (images_needed s.store) (length s.store.images)
                  (λ h. ap told (taken s.store names values stated moving 0 (sym e) refl h))
                  (λ h. ap told (no_room s.store names values stated moving 0 (sym e) refl h))),
            ))))))),
      )))
