-- The sum of a clause's different literals is the sum over all numbers that the clause has, so that clauses with the same literals have the same. Assumes nothing.
use Rattle.std.proofs.Common.{◌≡◌, ℕ, zero, suc, ◌+◌, ◌<◌, ◌≤◌, Bool, true, false, cond, eqb, List, [], ◌∷◌, map, sym, refl, ap, ◌∙◌, ap₂, ⊎_elim, not-suc-le-zero, arith, eqb-true}
use Rattle.lists.specs.Tests.{any_of, has}
use Rattle.lists.proofs.Cases.{never, or_cases, eq-or-ne}
use Rattle.lists.proofs.Members.{has-head, has_rest, has_other, has-again}
use Rattle.keys.specs.Keys.{different, total}

-- ---- sums over the numbers that pass a test

has-most : (l : List ℕ) (x : ℕ) → has l x ≡ true → x ≤ total l
unfolding any_of total
has-most [] x e = never e
has-most (c ∷ l) x e = or_cases (eqb c x) (has l x) e (λ q. omega (arith, eqb-true c x q)) (λ q. omega (arith, has-most l x q))

module _ (f : ℕ → ℕ) where
  unfoldable pub summed : (ℕ → Bool) → ℕ → ℕ
  summed p zero = 0
  summed p (suc k) = cond (p k) (f k) 0 + summed p k

  summed_same : (p q : ℕ → Bool) (k : ℕ) → ((x : ℕ) → x < k → p x ≡ q x) → summed p k ≡ summed q k
  unfolding summed
  summed_same p q zero e = refl
  summed_same p q (suc k) e = ap₂ (λ (b : Bool) (s : ℕ). cond b (f k) 0 + s) (e k (omega arith)) (summed_same p q k (λ x h. e x (omega arith)))

  summed-none : (k : ℕ) → summed (λ x. false) k ≡ 0
  unfolding summed
  summed-none zero = refl
  summed-none (suc k) = omega (arith, summed-none k)

  module _ (c : ℕ) (l : List ℕ) (e : has l c ≡ false) where
    more-here : (k : ℕ) → c ≡ k → cond (has (c ∷ l) k) (f k) 0 + summed (has (c ∷ l)) k ≡ f c + (cond (has l k) (f k) 0 + summed (has l) k)
    more-here k q =
        let others = summed_same (has (c ∷ l)) (has l) k (λ x g. has_other c l x (λ r. omega arith)) in
        let first : has (c ∷ l) k ≡ true = rw (← q) (has-head c l) in
        let not_yet : has l k ≡ false = rw q at e in
        rw (first, not_yet, others, q) (omega arith)

    more-later : (k : ℕ) → (c ≡ k → ⊥) → summed (has (c ∷ l)) k ≡ f c + summed (has l) k
        → cond (has (c ∷ l) k) (f k) 0 + summed (has (c ∷ l)) k ≡ f c + (cond (has l k) (f k) 0 + summed (has l) k)
    more-later k n rest = rw (has_other c l k n) (omega arith)

    summed-more : (k : ℕ) → c < k → summed (has (c ∷ l)) k ≡ f c + summed (has l) k
    unfolding summed
    summed-more zero h = absurd (not-suc-le-zero h)
    summed-more (suc k) h = ⊎_elim (more-here k) (λ n. more-later k n (summed-more k (omega arith))) (eq-or-ne c k)

  -- the sum of the different ones is the sum over all that the list has
  pub by_members : (l : List ℕ) (k : ℕ) → ((x : ℕ) → has l x ≡ true → x < k) → total (map f (different l)) ≡ summed (has l) k
  unfolding different total any_of
  by_members [] k low = sym (summed-none k)
  by_members (c ∷ l) k low = go (by_members l k (λ x e. low x (has_rest c l x e))) (has l c) refl
    where
      go : total (map f (different l)) ≡ summed (has l) k → (b : Bool) → has l c ≡ b
          → total (map f (cond b (different l) (c ∷ different l))) ≡ summed (has (c ∷ l)) k
      go rest true e = rest ∙ summed_same (has l) (has (c ∷ l)) k (λ x h. sym (has-again c l e x))
      go rest false e = ap (λ (s : ℕ). f c + s) rest ∙ sym (summed-more c l e k (low c (has-head c l)))

  -- so that order and repeats do not matter
  pub same_total : (a b : List ℕ) → ((x : ℕ) → has a x ≡ has b x) → total (map f (different a)) ≡ total (map f (different b))
  same_total a b e =
      let k : ℕ = suc (total a) in
      by_members a k (λ x h. omega (arith, has-most a x h))
      ∙ summed_same (has a) (has b) k (λ x h. e x)
      ∙ sym (by_members b k (λ x h. omega (arith, has-most a x (e x ∙ h))))
