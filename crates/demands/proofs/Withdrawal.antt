-- A withdrawal that is not refused: a row is held, the newest, and it is dropped with its clauses and auxiliaries. Assumes nothing.
use Rattle.std.proofs.Common.{Result, Ok, Err}
use Rattle.store.specs.declared.refusal.Refusal.{Refusal}
use mathlib.Core.Path.{◌≡◌, refl, ap, ◌∙◌}
use mathlib.Core.Bool.{Bool, true, false, cond}
use mathlib.Core.List.{List, [], ◌∷◌, ◌++◌}
use Prim.Native.Nat.{ℕ, ◌-◌}
use native.Mathlib.Omega.{arith}
use borrow.Author.Tests.{eqb-false}
use lib.ListN.{length, get_or}
use lib.Dec.{eqb}
use Rattle.store.specs.Refusals.{done, refused}
use Rattle.store.specs.Stores.{Store, plain_of, held_rows, without_row}
use Rattle.standing.specs.Keyed.{Keyed, with_keys, standing_of}
use Rattle.store.proofs.RowChanges.{held-count, without-row-held}
use Rattle.lexleader.specs.Made.{made, made_variables}
use Rattle.lexleader.specs.Store.{made_of, variables_of}
use Rattle.lexleader.proofs.MadeLaws.{made-newest, variables-newest}
use Rattle.calls.specs.Calls.{taken_back, on_store, withdraw_says, withdraw_store}
use Rattle.demands.specs.Lists.{but_last}
use Rattle.demands.specs.TakingBack.{Drops}
use Rattle.demands.proofs.ButLast.{last_apart}

module _ (s : Keyed) where
  pub withdrawn-refused : (number place : ℕ) → withdraw_says s ≡ refused number place → withdraw_store s ≡ s
  unfolding withdraw_store
  withdrawn-refused number place e = rw e

  module _ (said : withdraw_says s ≡ done taken_back) where
    pub withdrawn-row : withdraw_store s ≡ with_keys (without_row s.store) s.keys
    unfolding withdraw_store
    withdrawn-row = rw said

    some-held : s.store.counts.rows ≡ 0 → ⊥
    unfolding withdraw_says
    some-held = by (standing_of s) (eqb s.store.counts.rows 0) refl said
      where
        by : (standing : Result Store Refusal) (none : Bool) → eqb s.store.counts.rows 0 ≡ none → on_store standing (cond none (refused 30 0) (done taken_back)) ≡ done taken_back
            → s.store.counts.rows ≡ 0 → ⊥
        by (Ok u) true q e = let z : ◌≡◌ {A = ℕ} 0 1 = cc in absurd (omega arith)
        by (Ok u) false q e = eqb-false s.store.counts.rows 0 q
        by (Err r) none q e = let z : ◌≡◌ {A = ℕ} 0 1 = cc in absurd (omega arith)

    pub withdrawn-held : held_rows (withdraw_store s).store ≡ but_last (held_rows s.store)
    withdrawn-held = ap (λ (t : Keyed). held_rows t.store) withdrawn-row ∙ without-row-held s.store

    abbrev newest : List ℕ
    newest = get_or (held_rows s.store) (length (held_rows s.store) - 1) []

    rows_apart : held_rows s.store ≡ held_rows (without_row s.store) ++ (newest ∷ [])
    rows_apart = rw (without-row-held s.store) (last_apart (held_rows s.store) [] (omega (arith, held-count s.store, some-held)))

    pub drops : Drops s
    unfolding made_of variables_of plain_of
    drops =
        let n : ℕ = s.store.counts.variables in
        record {
          newest = newest;
          rows = rw withdrawn-row rows_apart;
          clauses = rw withdrawn-row (ap (made n (plain_of s.store)) rows_apart ∙ made-newest n (plain_of s.store) (held_rows (without_row s.store)) newest);
          numbers = rw withdrawn-row (ap (made_variables n) rows_apart ∙ variables-newest n (held_rows (without_row s.store)) newest);
          leaves = withdrawn-row;
        }
