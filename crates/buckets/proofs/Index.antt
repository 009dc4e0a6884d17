-- The last number in a bucket, and an index with one number more. Assumes nothing.
use mathlib.Core.Path.{◌≡◌, refl, sym, ◌∙◌}
use mathlib.Core.Bool.{Bool, true, false, cond}
use mathlib.Core.Logic.{⊎_elim}
use mathlib.Core.List.{List}
use Prim.Native.Nat.{ℕ, zero, suc, ◌+◌, ◌≤◌, ◌<◌, zero-le}
use native.Mathlib.Nat.{not-suc-le-zero}
use native.Mathlib.Numerals.{add-one}
use native.Mathlib.Omega.{arith}
use borrow.Author.Tests.{eq-eqb, ne_eqb, eqb-true, eqb-false}
use lib.ListN.{length, get_or, set, length-set, replicate, length-replicate, get_or-replicate}
use lib.Seq.{get_or-set_same, get_or-set_other}
use lib.Dec.{eqb}
use Rattle.lists.proofs.Cases.{eq-or-ne}
use Rattle.buckets.specs.Buckets.{last_in, IndexHolds}

module _ (bucket_of : ℕ → ℕ) where
  last-here : (k b : ℕ) → bucket_of k ≡ b → last_in bucket_of (k + 1) b ≡ k + 1
  unfolding last_in
  last-here k b e = rw (add-one k, eq-eqb (bucket_of k) b e)

  last-other : (k b : ℕ) → (bucket_of k ≡ b → ⊥) → last_in bucket_of (k + 1) b ≡ last_in bucket_of k b
  unfolding last_in
  last-other k b e = rw (add-one k, ne_eqb (bucket_of k) b e)

  pub last-most : (k b : ℕ) → last_in bucket_of k b ≤ k
  unfolding last_in
  last-most zero b = zero-le
  last-most (suc k) b = go (eqb (bucket_of k) b) (last-most k b)
    where
      go : (t : Bool) → last_in bucket_of k b ≤ k → cond t (suc k) (last_in bucket_of k b) ≤ suc k
      go true h = omega arith
      go false h = omega arith

  -- the last is in the bucket
  pub last-in : (k b c : ℕ) → last_in bucket_of k b ≡ c + 1 → bucket_of c ≡ b
  unfolding last_in
  last-in zero b c e = absurd (omega arith)
  last-in (suc k) b c e = go (eqb (bucket_of k) b) refl (last-in k b c) e
    where
      go : (t : Bool) → eqb (bucket_of k) b ≡ t → (last_in bucket_of k b ≡ c + 1 → bucket_of c ≡ b) → cond t (suc k) (last_in bucket_of k b) ≡ c + 1 → bucket_of c ≡ b
      go true q rest e = let same : c ≡ k = omega arith in rw same (eqb-true (bucket_of k) b q)
      go false q rest e = rest e

  -- and none after it is
  pub none_after : (k b i : ℕ) → last_in bucket_of k b ≤ i → i < k → bucket_of i ≡ b → ⊥
  unfolding last_in
  none_after zero b i h l e = not-suc-le-zero l
  none_after (suc k) b i h l e = go (eqb (bucket_of k) b) refl (none_after k b i) h
    where
      go : (t : Bool) → eqb (bucket_of k) b ≡ t → (last_in bucket_of k b ≤ i → i < k → bucket_of i ≡ b → ⊥) → cond t (suc k) (last_in bucket_of k b) ≤ i → ⊥
      go true q rest h = omega arith
      go false q rest h = ⊎_elim
          (λ s. eqb-false (bucket_of k) b q (rw s at e))
          (λ n. rest h (omega arith) e)
          (eq-or-ne i k)

  -- so the walk of a bucket falls
  pub next-below : (k c : ℕ) (heads nexts : List ℕ) → IndexHolds bucket_of k heads nexts → c < k → get_or nexts c 0 ≤ c
  next-below k c heads nexts r h = omega (arith, r.next c h, last-most c (bucket_of c))

  pub holds-none : (n : ℕ) (nexts : List ℕ) → IndexHolds bucket_of 0 (replicate n 0) nexts
  unfolding last_in
  holds-none n nexts = record { head = λ b h. get_or-replicate n b 0 0 (omega (arith, length-replicate {A = ℕ} n 0)); next = λ c h. absurd (not-suc-le-zero h) }

  pub holds_more : (k b : ℕ) (heads nexts : List ℕ) → b < length heads → k < length nexts → bucket_of k ≡ b → IndexHolds bucket_of k heads nexts
      → IndexHolds bucket_of (k + 1) (set heads b (k + 1)) (set nexts k (get_or heads b 0))
  holds_more k b heads nexts h l e r = record {
    head = λ a g. ⊎_elim
        (λ s. rw s (get_or-set_same heads b (k + 1) 0 h ∙ sym (last-here k b e)))
        (λ n. get_or-set_other heads b a (k + 1) 0 n ∙ r.head a (simp length-set at g) ∙ sym (last-other k a (λ q. n (sym q ∙ e))))
        (eq-or-ne a b);
    next = λ c g. ⊎_elim
        (λ s. rw s (get_or-set_same nexts k (get_or heads b 0) 0 l ∙ r.head b h ∙ rw e))
        (λ n. get_or-set_other nexts k c (get_or heads b 0) 0 n ∙ r.next c (omega arith))
        (eq-or-ne c k);
  }
