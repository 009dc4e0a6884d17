-- Document 02, CR 8: `NoIdleLines` holds. Assumes nothing.
use mathlib.Core.Path.{◌≡◌, refl, sym, ap, ◌∙◌}
use mathlib.Core.List.{List, [], ◌∷◌, ◌++◌}
use Prim.Native.Nat.{ℕ, ◌+◌}
use native.Mathlib.Nat.{add-zero}
use native.Mathlib.Omega.{arith}
use Rattle.store.specs.Refusals.{refused}
use Rattle.store.specs.Identity.{identity}
use Rattle.store.proofs.Identity.{identity-length, moves-nothing-iff, identity-row}
use Rattle.store.proofs.RowChanges.{held-count}
use Rattle.standing.specs.Keyed.{Keyed}
use Rattle.standing.proofs.StandingLaws.{ready_of}
use Rattle.permutation.proofs.RowLaws.{row-length}
use Rattle.offering.specs.Offering.{row_for}
use Rattle.demands.proofs.OfferedBy.{not-moving}
use Rattle.lexleader.specs.Rows.{pairs_of}
use Rattle.lexleader.specs.Made.{pair_clauses, row_clauses, auxiliaries, rows_clauses, all_auxiliaries, made, made_variables}
use Rattle.lexleader.proofs.Remaining.{stays-none}
use Rattle.calls.specs.Calls.{offer_says}
use Rattle.calls.proofs.CallLaws.{full as is-full}
use Rattle.demands.specs.Demand2.{States}
use Rattle.demands.specs.NoIdleLines.{NoIdleLines}
use Rattle.demands.proofs.Decided.{Decided, shut, misformed, full, unstated, idle, asymmetric, short, taken, says, decided}
use Rattle.demands.proofs.AfterCalls.{after-opening}

module _ (s : Keyed) (names values : List ℕ) where
  abbrev n : ℕ
  n = s.store.counts.variables

  abbrev Idle : ℕ → Type 0
  Idle place = States s names values × (row_for s.store names values ≡ identity n) × (place ≡ 0)

  idle-of : (place : ℕ) → offer_says s names values ≡ refused 31 place → Idle place
  idle-of place said = by (decided s names values)
    where
      other : {number at : ℕ} → offer_says s names values ≡ refused number at → number ≡ 31
      other e = cc

      by : Decided s names values → Idle place
      by (shut q e) = absurd (omega (arith, other e))
      by (misformed q e) = absurd (omega (arith, other e))
      by (full e) = absurd (omega (arith, other e))
      by (unstated r h e) = absurd (omega (arith, other e))
      by (idle a h e) = (a, (moves-nothing-iff n (row_for s.store names values) (row-length n names values)).0 h, cc)
      by (asymmetric e) = absurd (omega (arith, other e))
      by (short a h e) = absurd (omega (arith, other e))
      by (taken a moving none room e) = let z : ◌≡◌ {A = ℕ} 0 1 = cc in absurd (omega arith)

  says-idle : States s names values → row_for s.store names values ≡ identity n → offer_says s names values ≡ refused 31 0
  says-idle a e = says s names values a (not-moving s.store names values a.stated ((moves-nothing-iff n (row_for s.store names values) (row-length n names values)).1 e))

-- ---- among the rows

no_pairs : (n : ℕ) → pairs_of (identity n) ≡ []
no_pairs n = stays-none (identity n) ((moves-nothing-iff n (identity n) (identity-length n)).1 refl)

module _ (n : ℕ) (after : List (List ℕ)) where
  no-clauses : (e : ℕ) (before : List (List ℕ)) → rows_clauses e (before ++ (identity n ∷ after)) ≡ rows_clauses e (before ++ after)
  unfolding rows_clauses row_clauses pair_clauses auxiliaries
  no-clauses e [] = rw (no_pairs n, add-zero e)
  no-clauses e (row ∷ before) = ap (λ (l : List (List ℕ)). row_clauses e row ++ l) (no-clauses (e + auxiliaries row) before)

  no-auxiliaries : (before : List (List ℕ)) → all_auxiliaries (before ++ (identity n ∷ after)) ≡ all_auxiliaries (before ++ after)
  unfolding all_auxiliaries auxiliaries
  no-auxiliaries [] = rw (no_pairs n) (omega arith)
  no-auxiliaries (row ∷ before) = ap (λ (k : ℕ). auxiliaries row + k) (no-auxiliaries before)

pub no-idle-lines : NoIdleLines
unfolding made made_variables
no-idle-lines = record {
  turns-back = λ s names values place. (
    idle-of s names values place,
    λ h. rw h.2 (says-idle s names values h.0 h.1),
  );
  none-held = λ s text sizes calls said row m. let a = after-opening s text sizes calls said in a.moving row (rw a.sound.are-rows at m);
  formed = identity-row;
  adds_none = λ n formula before after. (
    ap (λ (l : List (List ℕ)). formula ++ l) (no-clauses n after (n + 1) before),
    ap (λ (k : ℕ). n + k) (no-auxiliaries n after before),
  );
  counts = λ s names values opened formed many. is-full s names values (ready_of s opened formed) (sym (held-count s.store) ∙ many);
}
