-- Demand 1 of the brief: "A caller who lends any bytes, figures or store gets one of the documented answers, or one numbered refusal exactly where its documented
-- reason holds and comes first, and a refusal leaves the store and every lent buffer unchanged." Of each public call: what it says (`..Says`), what it leaves
-- (`..Store`, `..Leaves`) and its reasons (`Reasons.antt`). Handing back the lesser refuses nothing. `demand-1` (proofs/Demand1.antt) says that it holds.
-- Assumes nothing.
use Rattle.std.specs.Prelude.{◌≡◌, Ok, List, ◌↔◌, ℕ, length}
use Rattle.store.specs.Refusals.{Said, refused}
use Rattle.standing.specs.Keyed.{Keyed}
use Rattle.opening.specs.Problem.{problem_of}
use Rattle.opening.specs.declared.Problem.{Problem}
use Rattle.calls.specs.Calls.{open_says, open_store, offer_says, offer_store, withdraw_says, withdraw_store, header_says, header_leaves, clause_says, clause_leaves, figures_says}
use Rattle.calls.specs.Calls.{compare_says, fill_says, fill_leaves, check_says, descend_says, descend_leaves, efficiency_says}
use Rattle.demands.specs.Reasons.{Reason, comes_first, IsProblemLine, open_reasons, offer_reasons, withdraw_reasons, header_reasons, clause_reasons, figures_reasons}
use Rattle.demands.specs.Reasons.{fill_reasons, check_reasons, descend_reasons, compare_reasons, efficiency_reasons}

-- "one numbered refusal exactly where its documented reason holds and comes first"
abbrev pub RefusesBy : {Values : Type 0} → List Reason → Said Values → Type 0
RefusesBy reasons said = (number place : ℕ) → (said ≡ refused number place) ↔ comes_first reasons number place

-- "a refusal leaves the store and every lent buffer unchanged"
abbrev pub Unchanged : {Values Lent : Type 0} → Said Values → Lent → Lent → Type 0
Unchanged said lent left = (number place : ℕ) → said ≡ refused number place → left ≡ lent

pub record Demand1 : Type 0 where
  pub open-refuses : (s : Keyed) (text : List ℕ) → RefusesBy (open_reasons s text) (open_says s text)
  -- the line that the reasons of opening speak of
  pub problem-line : (text : List ℕ) (p : Problem) → problem_of text ≡ Ok p → IsProblemLine text p
  pub open-leaves : (s : Keyed) (text : List ℕ) → Unchanged (open_says s text) s (open_store s text)
  pub offer-refuses : (s : Keyed) (names values : List ℕ) → RefusesBy (offer_reasons s names values) (offer_says s names values)
  pub offer-leaves : (s : Keyed) (names values : List ℕ) → Unchanged (offer_says s names values) s (offer_store s names values)
  pub withdraw-refuses : (s : Keyed) → RefusesBy (withdraw_reasons s) (withdraw_says s)
  pub withdraw-leaves : (s : Keyed) → Unchanged (withdraw_says s) s (withdraw_store s)
  -- no other call changes the store; a buffer is lent to these
  pub header-refuses : (s : Keyed) (room : ℕ) → RefusesBy (header_reasons s room) (header_says s room)
  pub header-leaves : (s : Keyed) (out : List ℕ) → Unchanged (header_says s (length out)) out (header_leaves s out)
  pub clause-refuses : (s : Keyed) (q room : ℕ) → RefusesBy (clause_reasons s q room) (clause_says s q room)
  pub clause-leaves : (s : Keyed) (q : ℕ) (out : List ℕ) → Unchanged (clause_says s q (length out)) out (clause_leaves s q out)
  pub fill-refuses : (s : Keyed) (a : List ℕ) (room : ℕ) → RefusesBy (fill_reasons s a room) (fill_says s a room)
  pub fill-leaves : (s : Keyed) (a out : List ℕ) → Unchanged (fill_says s a (length out)) out (fill_leaves s a out)
  pub descend-refuses : (s : Keyed) (a : List ℕ) (limit : ℕ) → RefusesBy (descend_reasons s a) (descend_says s a limit)
  pub descend-leaves : (s : Keyed) (a : List ℕ) (limit : ℕ) → Unchanged (descend_says s a limit) a (descend_leaves s a limit)
  -- and none to these
  pub figures-refuses : (s : Keyed) → RefusesBy (figures_reasons s) (figures_says s)
  pub check-refuses : (s : Keyed) (a : List ℕ) → RefusesBy (check_reasons s a) (check_says s a)
  pub compare-refuses : (a b : List ℕ) → RefusesBy (compare_reasons a b) (compare_says a b)
  pub efficiency-refuses : (labelled unlabelled allowed : ℕ)
      → RefusesBy (efficiency_reasons labelled unlabelled allowed) (efficiency_says labelled unlabelled allowed)
