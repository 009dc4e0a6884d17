-- The last eleven bits of a key are the count of the clause's different literals. So of two clauses with the same key neither is a part of the other: if all literals of
-- one are among the other's, they have the same. Assumes nothing.
use Rattle.std.proofs.Common.{◌≡◌, ℕ, zero, suc, ◌+◌, ◌-◌, ◌%◌, ◌^◌, ◌<◌, ◌≤◌, Bool, true, false, cond, List, [], ◌∷◌, map, length, sym, refl, ap, ◌∙◌, ⊎_elim, not-suc-le-zero, arith}
use Rattle.lists.specs.Tests.{all_of, has}
use Rattle.lists.proofs.Cases.{never, eq-or-ne}
use Rattle.lists.proofs.Members.{all-has}
use Rattle.numbers.specs.Numbers.{numbers, number_count, count_range}
use Rattle.numbers.proofs.Theorem.{well-chosen}
use Rattle.store.specs.Literals.{is_literal}
use Rattle.store.specs.Stores.{max_variables}
use Rattle.store.proofs.FormLaws.{literal-low, literal-high}
use Rattle.keys.specs.Keys.{different, total, number_in, key_by, key_of}
use Rattle.keys.proofs.Sums.{summed, by_members}

-- how many numbers below k pass a test
abbrev counted : (ℕ → Bool) → ℕ → ℕ
counted p k = summed (λ x. 1) p k

total-ones : (l : List ℕ) → total (map (λ x. 1) l) ≡ length l
unfolding total
total-ones [] = refl
total-ones (x ∷ l) = omega (arith, total-ones l)

-- a sum of numbers that count one each, and their count
module _ (f : ℕ → ℕ) (p : ℕ → Bool) (ones : (x : ℕ) → p x ≡ true → f x % count_range ≡ 1) where
  last-bits : (k : ℕ) → summed f p k % count_range ≡ counted p k % count_range
  unfolding summed
  last-bits zero = refl
  last-bits (suc k) = go (p k) refl (last-bits k)
    where
      go : (b : Bool) → p k ≡ b → summed f p k % count_range ≡ counted p k % count_range → (cond b (f k) 0 + summed f p k) % count_range ≡ (cond b 1 0 + counted p k) % count_range
      go true e rest = omega (arith, ones k e)
      go false e rest = omega arith

few : (p : ℕ → Bool) (k : ℕ) → counted p k ≤ k
unfolding summed
few p zero = omega arith
few p (suc k) = go (p k) (few p k)
  where
    go : (b : Bool) → counted p k ≤ k → cond b 1 0 + counted p k ≤ suc k
    go true h = omega arith
    go false h = omega arith

-- all that pass one test pass another: these are no fewer, and where they are no more they are the same
module _ (p q : ℕ → Bool) (into : (x : ℕ) → p x ≡ true → q x ≡ true) where
  no-fewer : (k : ℕ) → counted p k ≤ counted q k
  unfolding summed
  no-fewer zero = omega arith
  no-fewer (suc k) = go (p k) refl (q k) refl (no-fewer k)
    where
      go : (a : Bool) → p k ≡ a → (b : Bool) → q k ≡ b → counted p k ≤ counted q k → cond a 1 0 + counted p k ≤ cond b 1 0 + counted q k
      go true e true g h = omega arith
      go true e false g h = never (sym g ∙ into k e)
      go false e true g h = omega arith
      go false e false g h = omega arith

  no_more : (k : ℕ) → counted p k ≡ counted q k → (x : ℕ) → x < k → q x ≡ true → p x ≡ true
  unfolding summed
  no_more zero e x h g = absurd (not-suc-le-zero h)
  no_more (suc k) e x h g = go (p k) refl (q k) refl e (no_more k)
    where
      below : (x ≡ k → p x ≡ true) → (counted p k ≡ counted q k → (y : ℕ) → y < k → q y ≡ true → p y ≡ true) → counted p k ≡ counted q k → p x ≡ true
      below last rest same = ⊎_elim last (λ n. rest same x (omega arith) g) (eq-or-ne x k)

      go : (a : Bool) → p k ≡ a → (b : Bool) → q k ≡ b → cond a 1 0 + counted p k ≡ cond b 1 0 + counted q k
          → (counted p k ≡ counted q k → (y : ℕ) → y < k → q y ≡ true → p y ≡ true) → p x ≡ true
      go true i true j s rest = below (λ r. rw r i) rest (omega arith)
      go true i false j s rest = never (sym j ∙ into k i)
      go false i true j s rest = absurd (omega (arith, no-fewer k))
      go false i false j s rest = below (λ r. never (sym j ∙ rw r at g)) rest (omega arith)

-- past the codes of literals
abbrev end : ℕ
end = number_count + 2

module _ (clause : List ℕ) (good : all_of (is_literal max_variables) clause ≡ true) where
  its-literal : (x : ℕ) → has clause x ≡ true → (2 ≤ x) × (x < end)
  its-literal x h =
      let g = all-has (is_literal max_variables) clause x good h in
      (omega (arith, literal-low max_variables x g), omega (arith, literal-high max_variables x g))

  different-counted : length (different clause) ≡ counted (has clause) end
  different-counted = sym (total-ones (different clause)) ∙ by_members (λ x. 1) clause end (λ x h. (its-literal x h).1)

  pub key_counts : key_of clause % count_range ≡ length (different clause)
  unfolding key_by
  key_counts =
      let ones : (x : ℕ) → has clause x ≡ true → number_in numbers x % count_range ≡ 1 =
      λ x h. well-chosen.each_counts (x - 2) (omega (arith, its-literal x h)) in
      bits _ _ (by_members (number_in numbers) clause end (λ x h. (its-literal x h).1)) (last-bits (number_in numbers) (has clause) ones end) (few (has clause) end)
      ∙ sym different-counted
    where
      bits : (t s : ℕ) {c : ℕ} → t ≡ s → s % count_range ≡ c % count_range → c ≤ end → t % 2 ^ 64 % count_range ≡ c
      bits t s e g h = omega arith

-- "No permutation is decided otherwise than before, even where two clauses share a key": for clauses that do, one inclusion is both
pub whole : (a b : List ℕ) → all_of (is_literal max_variables) a ≡ true → all_of (is_literal max_variables) b ≡ true → key_of a ≡ key_of b
    → ((x : ℕ) → has a x ≡ true → has b x ≡ true) → (x : ℕ) → has b x ≡ true → has a x ≡ true
whole a b ga gb e into x h =
    let as_many = sym (key_counts a ga) ∙ ap (λ (key : ℕ). key % count_range) e ∙ key_counts b gb in
    no_more (has a) (has b) into end (sym (different-counted a ga) ∙ as_many ∙ different-counted b gb) x (its-literal b gb x h).1 h
