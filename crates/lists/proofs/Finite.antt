-- Of m + 1 numbers below m two are equal. Assumes nothing.
use mathlib.Core.Path.{◌≡◌, refl, sym, ◌∙◌}
use mathlib.Core.Bool.{Bool, true, false}
use mathlib.Core.Logic.{◌⊎◌, inl, inr}
use Prim.Native.Nat.{ℕ, zero, suc, ◌≤◌, ◌<◌}
use native.Mathlib.Decide.{ℕ_discrete}
use native.Mathlib.Nat.{not-suc-le-zero, le_refl}
use native.Mathlib.Omega.{arith}
use Rattle.lists.specs.Tests.{has}
use Rattle.lists.specs.Tables.{table}
use Rattle.lists.proofs.Cases.{never}
use Rattle.lists.proofs.Members.{place, placed}
use Rattle.lists.proofs.TableLaws.{length-table, get_or-table}

-- v is among the first k of a sequence, or is none of them
found : (s : ℕ → ℕ) (v k : ℕ) → ((i : ℕ) × (i < k) × (s i ≡ v)) ⊎ ((i : ℕ) → i < k → s i ≡ v → ⊥)
found s v k = go (has (table k s) v) refl
  where
    go : (b : Bool) → has (table k s) v ≡ b → ((i : ℕ) × (i < k) × (s i ≡ v)) ⊎ ((i : ℕ) → i < k → s i ≡ v → ⊥)
    go true e =
        let r = place (table k s) v e in
        let h : r.0 < k = omega (arith, r.1, length-table k s) in
        inl (r.0, h, sym (get_or-table k s r.0 0 h) ∙ r.2)
    go false e = inr (λ i h q. never (sym e ∙ placed (table k s) v i (omega (arith, length-table k s)) (get_or-table k s i 0 h ∙ q)))

-- v for x where a test holds
swap : {A : Type 0} → Dec A → ℕ → ℕ → ℕ
swap (yes e) v x = v
swap (no e) v x = x

-- two of s 0, .., s m are equal
pub record Twice (s : ℕ → ℕ) (m : ℕ) : Type 0 where
  pub first : ℕ
  pub second : ℕ
  pub order : first < second
  pub last : second ≤ m
  pub same : s first ≡ s second

-- Where s (m + 1) is among those before it, these are the two. Otherwise s (m + 1) put for m leaves m + 1 numbers below m.
pub twice : (m : ℕ) (s : ℕ → ℕ) → ((k : ℕ) → k ≤ m → s k < m) → Twice s m
unfolding swap
twice zero s f = absurd (not-suc-le-zero (f 0 (le_refl 0)))
twice (suc m) s f = go (found s (s (suc m)) (suc m)) (λ g. twice m (λ k. swap (ℕ_discrete (s k) m) (s (suc m)) (s k)) g)
  where
    go : ((i : ℕ) × (i < suc m) × (s i ≡ s (suc m))) ⊎ ((i : ℕ) → i < suc m → s i ≡ s (suc m) → ⊥)
        → (((k : ℕ) → k ≤ m → swap (ℕ_discrete (s k) m) (s (suc m)) (s k) < m) → Twice (λ k. swap (ℕ_discrete (s k) m) (s (suc m)) (s k)) m)
        → Twice s (suc m)
    go (inl r) rec = record { first = r.0; second = suc m; order = r.1; last = le_refl (suc m); same = r.2 }
    go (inr none) rec =
        let t = rec (λ k h. low k h (ℕ_discrete (s k) m)) in
        record {
          first = t.first;
          second = t.second;
          order = t.order;
          last = omega (arith, t.last);
          same = back t.first t.second (omega (arith, t.order, t.last)) t.last (ℕ_discrete (s t.first) m) (ℕ_discrete (s t.second) m) t.same;
        }
      where
        low : (k : ℕ) → k ≤ m → (d : Dec (s k ≡ m)) → swap d (s (suc m)) (s k) < m
        low k h (yes e) = ne-lt (s (suc m)) (f (suc m) (le_refl (suc m))) (λ q. none k (omega arith) (e ∙ sym q))
          where
            ne-lt : (v : ℕ) → v < suc m → (v ≡ m → ⊥) → v < m
            ne-lt v a b = omega arith
        low k h (no ne) = omega (arith, f k (omega arith))

        back : (i j : ℕ) → i ≤ m → j ≤ m → (d : Dec (s i ≡ m)) (e : Dec (s j ≡ m)) → swap d (s (suc m)) (s i) ≡ swap e (s (suc m)) (s j) → s i ≡ s j
        back i j a b (yes d) (yes e) q = d ∙ sym e
        back i j a b (yes d) (no e) q = absurd (none j (omega arith) (sym q))
        back i j a b (no d) (yes e) q = absurd (none i (omega arith) q)
        back i j a b (no d) (no e) q = q
