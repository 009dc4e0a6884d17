-- How a call is shown to refuse by its list of reasons: one reason after another, each by the test that decides it. Assumes nothing.
use mathlib.Core.Path.{◌≡◌, refl, sym, ◌∙◌}
use mathlib.Core.Bool.{Bool, true, false}
use mathlib.Core.List.{List, [], ◌∷◌}
use mathlib.Core.Logic.{◌⊎◌, inl, inr}
use Prim.Native.Nat.{ℕ, ◌≤◌, ◌<◌}
use native.Mathlib.Omega.{arith}
use borrow.Author.Tests.{leb-true, leb-false}
use lib.Dec.{leb}
use Rattle.lists.proofs.Cases.{never}
use Rattle.store.specs.Refusals.{Said, done, refused}
use Rattle.standing.specs.Keyed.{Keyed, well_formed, standing_of}
use Rattle.standing.proofs.StandingLaws.{not-open, badly-formed, ready_of}
use Rattle.calls.specs.Calls.{on_store}
use Rattle.demands.specs.Reasons.{Reason, comes_first, reason, too_short, on_store_reasons}
use Rattle.demands.specs.Demand1.{RefusesBy}

-- the same as a record, so that the reasons and what is said are found by the checker
pub record Exact {Values : Type 0} (reasons : List Reason) (said : Said Values) : Type 0 where
  pub iff : RefusesBy reasons said

-- what is said, by an equation
pub same-said : {Values : Type 0} {reasons : List Reason} {said other : Said Values} → said ≡ other → Exact reasons other → Exact reasons said
same-said e x = rw e x

module _ {Values : Type 0} {said : Said Values} where
  -- no reason is left
  pub answers : {v : Values} → said ≡ done v → Exact [] said
  unfolding comes_first
  answers e = record { iff = λ number place. (λ q. let z : ◌≡◌ {A = ℕ} 0 1 = cc in omega arith, λ n. absurd n) }

  module _ {reasons : List Reason} (r : Reason) where
    -- the first reason holds, at one place
    pub refuses : (place : ℕ) → r.at place → ((p : ℕ) → r.at p → p ≡ place) → said ≡ refused r.number place → Exact (r ∷ reasons) said
    unfolding comes_first
    refuses place holds one e = record {
      iff = λ number p. (
        λ q. let same : number ≡ r.number = cc in let here : place ≡ p = cc in inl (same, rw here at holds),
        from number p,
      );
    }
      where
        from : (number p : ℕ) → ((number ≡ r.number) × r.at p) ⊎ (((p : ℕ) → r.at p → ⊥) × comes_first reasons number p) → said ≡ refused number p
        from number p (inl h) = let here : p ≡ place = one p h.1 in cc h.0
        from number p (inr h) = absurd (h.0 place holds)

    -- it does not hold
    pub goes_on : ((p : ℕ) → r.at p → ⊥) → Exact reasons said → Exact (r ∷ reasons) said
    unfolding comes_first
    goes_on none rest = record { iff = λ number p. (λ q. inr (none, (rest.iff number p).0 q), from number p) }
      where
        from : (number p : ℕ) → ((number ≡ r.number) × r.at p) ⊎ (((p : ℕ) → r.at p → ⊥) × comes_first reasons number p) → said ≡ refused number p
        from number p (inl h) = absurd (none p h.1)
        from number p (inr h) = (rest.iff number p).1 h.1

  -- a reason at one place: it holds, or not, and the tests that decide it
  module _ {number place : ℕ} {Condition : Type 0} {reasons : List Reason} where
    pub held : Condition → said ≡ refused number place → Exact (reason number Condition place ∷ reasons) said
    held h e = refuses (reason number Condition place) place (h, refl) (λ p q. q.1) e

    pub missed : (Condition → ⊥) → Exact reasons said → Exact (reason number Condition place ∷ reasons) said
    missed h rest = goes_on (reason number Condition place) (λ p q. h q.0) rest

    pub where-true : (test : Bool) → (test ≡ true → Condition × (said ≡ refused number place)) → (test ≡ false → (Condition → ⊥) × Exact reasons said)
        → Exact (reason number Condition place ∷ reasons) said
    where-true true f g = let h = f refl in held h.0 h.1
    where-true false f g = let h = g refl in missed h.0 h.1

    pub where-false : (test : Bool) → (test ≡ false → Condition × (said ≡ refused number place)) → (test ≡ true → (Condition → ⊥) × Exact reasons said)
        → Exact (reason number Condition place ∷ reasons) said
    where-false true f g = let h = g refl in missed h.0 h.1
    where-false false f g = let h = f refl in held h.0 h.1

-- 20 and 21
pub on_store_lem : {Values : Type 0} {said : Said Values} {reasons : List Reason} (s : Keyed) → Exact reasons said
    → Exact (on_store_reasons s reasons) (on_store (standing_of s) said)
on_store_lem s rest =
    where-false s.store.counts.is_open
    (λ shut. (shut, rw (not-open s shut)))
    (λ opened. (
      λ shut. never (sym shut ∙ opened),
      where-false (well_formed s)
          (λ bad. (bad, rw (badly-formed s opened bad)))
          (λ formed. (λ bad. never (sym bad ∙ formed), same-said (rw (ready_of s opened formed)) rest)),
    ))

-- 23, tried last
pub too_short_lem : {Values : Type 0} {said : Said Values} (v : Values) (needed room : ℕ) → (needed ≤ room → said ≡ done v) → (room < needed → said ≡ refused 23 needed)
    → Exact (too_short needed room ∷ []) said
too_short_lem v needed room fits short =
    where-false (leb needed room)
    (λ t. let h = leb-false needed room t in (h, short h))
    (λ t. let h = leb-true needed room t in (λ k. omega arith, answers (fits h)))
