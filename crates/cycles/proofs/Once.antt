-- A cycle is gone round once: its list has each variable once, and with each the one that it is sent to. Assumes nothing.
use mathlib.Core.Path.{◌≡◌, sym, ap, ◌∙◌}
use mathlib.Core.Bool.{Bool, true, false, not, cond}
use mathlib.Core.List.{List, [], ◌∷◌}
use mathlib.Core.Logic.{◌⊎◌, inl, inr}
use Prim.Native.Nat.{ℕ, zero, suc, ◌+◌, ◌-◌, ◌≤◌, ◌<◌, zero-le, suc-le-suc}
use native.Mathlib.Omega.{arith}
use borrow.Author.Tests.{eqb-true}
use lib.ListN.{length}
use lib.Dec.{eqb}
use Rattle.lists.specs.Tests.{any_of, has, distinct}
use Rattle.lists.proofs.Cases.{never, not_so, and_both, or_cases, eq-or-ne}
use Rattle.store.proofs.Formed.{Row}
use Rattle.cycles.specs.Cycles.{sent_to, met_from, cycle_of}
use Rattle.cycles.proofs.Returns.{after, after-add}
use Rattle.cycles.proofs.Walks.{met, met-end, met-step, closes-first, member-reach, reach-member}

module _ (row : List ℕ) (z : ℕ) where
  -- what is met from j on is met within as many steps as the list has variables
  met-after : (most j x : ℕ) → has (met_from row z most j) x ≡ true → (m : ℕ) × (m < length (met_from row z most j)) × (after row m j ≡ x)
  unfolding met_from any_of after
  met-after zero j x h = never h
  met-after (suc most) j x h = go (eqb j z) h (met-after most (sent_to row j) x)
    where
      go : (c : Bool) → has (cond c [] (j ∷ met_from row z most (sent_to row j))) x ≡ true
          → (has (met_from row z most (sent_to row j)) x ≡ true → (m : ℕ) × (m < length (met_from row z most (sent_to row j))) × (after row m (sent_to row j) ≡ x))
          → (m : ℕ) × (m < length (cond c [] (j ∷ met_from row z most (sent_to row j)))) × (after row m j ≡ x)
      go true h rest = never h
      go false h rest =
          or_cases (eqb j x) (has (met_from row z most (sent_to row j)) x) h
          (λ e. (0, omega arith, eqb-true j x e))
          (λ e. let t = rest e in (suc t.0, omega (arith, t.1), t.2))

  -- z is met after all of them
  met_all : (k j : ℕ) → k ≤ length row → after row k j ≡ z → after row (length (met row z j)) j ≡ z
  unfolding after
  met_all zero j h e = rw (met-end row z j e) e
  met_all (suc k) j h e = go (eq-or-ne j z) (met_all k (sent_to row j) (omega arith) e)
    where
      go : (j ≡ z) ⊎ (j ≡ z → ⊥) → after row (length (met row z (sent_to row j))) (sent_to row j) ≡ z → after row (length (met row z j)) j ≡ z
      go (inl q) rest = rw (met-end row z j q) q
      go (inr q) rest = rw (met-step row z j q (suc k, h, e)) rest

  -- and not before
  met-first : (m j : ℕ) → m ≤ length row → after row m j ≡ z → length (met row z j) ≤ m
  unfolding after
  met-first zero j h e = rw (met-end row z j e) zero-le
  met-first (suc m) j h e = go (eq-or-ne j z) (met-first m (sent_to row j) (omega arith) e)
    where
      go : (j ≡ z) ⊎ (j ≡ z → ⊥) → length (met row z (sent_to row j)) ≤ m → length (met row z j) ≤ suc m
      go (inl q) rest = rw (met-end row z j q) zero-le
      go (inr q) rest = rw (met-step row z j q (suc m, h, e)) (suc-le-suc rest)

  module _ (k j : ℕ) (h : k ≤ length row) (e : after row k j ≡ z) where
    -- z is none of them
    not_end : has (met row z j) z ≡ false
    not_end = not_so (has (met row z j) z) (λ m.
        let t = met-after (length row) j z m in
        let few = met-first k j h e in
        let first = met-first t.0 j (omega (arith, t.1)) t.2 in
        omega (arith, t.1))

    -- and j is met once: from j back to j and on to z would be a longer way than the first
    not-again : (j ≡ z → ⊥) → has (met row z (sent_to row j)) j ≡ false
    unfolding after
    not-again ne = not_so (has (met row z (sent_to row j)) j) (λ m.
        let t = met-after (length row) (sent_to row j) j m in
        let step : length (met row z j) ≡ suc (length (met row z (sent_to row j))) = ap length (met-step row z j ne (k, h, e)) in
        let d : ℕ = length (met row z j) - suc t.0 in
        let split : length (met row z j) ≡ suc t.0 + d = omega (arith, t.1) in
        let on : after row d j ≡ z =
        ap (after row d) (sym t.2) ∙ sym (after-add row (suc t.0) d j) ∙ ap (λ (i : ℕ). after row i j) (sym split) ∙ met_all k j h e in
        let few = met-first k j h e in
        let first = met-first d j (omega arith) on in
        omega (arith, t.1))

  met-once : (k j : ℕ) → k ≤ length row → after row k j ≡ z → distinct (met row z j) ≡ true
  unfolding after distinct
  met-once zero j h e = rw (met-end row z j e)
  met-once (suc k) j h e = go (eq-or-ne j z) (met-once k (sent_to row j) (omega arith) e)
    where
      go : (j ≡ z) ⊎ (j ≡ z → ⊥) → distinct (met row z (sent_to row j)) ≡ true → distinct (met row z j) ≡ true
      go (inl q) rest = rw (met-end row z j q)
      go (inr q) rest = rw (met-step row z j q (suc k, h, e)) (and_both (ap not (not-again (suc k) j h e q)) rest)

module _ (n : ℕ) (row : List ℕ) (r : Row n row) (i : ℕ) (low : 1 ≤ i) (high : i ≤ n) where
  pub cycle-once : distinct (cycle_of row i) ≡ true
  unfolding distinct cycle_of
  cycle-once =
      let t = closes-first n row r i low high in
      and_both (ap not (not_end row i t.0 (sent_to row i) t.1 t.2)) (met-once row i t.0 (sent_to row i) t.1 t.2)

  -- with each variable the one that it is sent to
  pub cycle-closed : (x : ℕ) → has (cycle_of row i) x ≡ true → has (cycle_of row i) (sent_to row x) ≡ true
  unfolding after
  cycle-closed x m =
      let t = member-reach row i x m in
      reach-member n row r i (sent_to row x) low high (t.0 + 1, after-add row t.0 1 i ∙ ap (after row 1) t.1)
