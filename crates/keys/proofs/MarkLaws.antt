-- Marks while a clause is gone through from its end: those of its mark are at the literals that came. Assumes nothing.
use Rattle.std.proofs.Common.{◌≡◌, ℕ, ◌+◌, ◌-◌, ◌<◌, ◌≤◌, true, false, eqb, List, [], ◌∷◌, length, get_or, drop, set, replicate, sym, refl, ◌∙◌, ap₂, ⊎_elim, arith, length-set, drop_of_length-le, get_or-set_other, get_or-set_same, eq-eqb, ne_eqb}
use lib.ListN.{length-replicate, get_or-replicate, get_or-eq_default}
use Rattle.lists.specs.Tests.{any_of, all_of, has}
use Rattle.lists.proofs.Cases.{and_l, and_r, and_both, lt-or-le, eq-or-ne}
use Rattle.lists.proofs.Members.{has-head, has_other, has-again}
use Rattle.numbers.specs.Numbers.{numbers, number_count}
use Rattle.store.specs.Literals.{is_literal}
use Rattle.store.specs.Held.{formula_of}
use Rattle.store.specs.Stores.{clause_at, max_variables}
use Rattle.store.specs.declared.clauses.Clauses.{Clauses}
use Rattle.store.proofs.FormLaws.{literal-low, literal-high, literal-within}
use Rattle.store.proofs.Held.{its-clause, its-literals}
use Rattle.keys.specs.Keys.{key_by, key_of}
use Rattle.keys.specs.Marks.{Below, Marked, Places, OwnPlaces, sent_clause}
use Rattle.keys.proofs.KeyLaws.{Hand, hand-rest}

-- marks of zeros
pub unmarked : Below 1 (replicate number_count 0)
unmarked = record { room = length-replicate {A = ℕ} number_count 0; low = λ i. ⊎_elim (inside i) (outside i) (lt-or-le i number_count) }
  where
    inside : (i : ℕ) → i < number_count → get_or {A = ℕ} (replicate number_count 0) i 0 < 1
    inside i h = rw (get_or-replicate {A = ℕ} number_count i 0 0 h) (omega arith)

    outside : (i : ℕ) → number_count ≤ i → get_or {A = ℕ} (replicate number_count 0) i 0 < 1
    outside i h = rw (get_or-eq_default {A = ℕ} (replicate number_count 0) 0 {n = i} (omega (arith, length-replicate {A = ℕ} number_count 0))) (omega arith)

module _ (mark : ℕ) (clause marks : List ℕ) where
  pub marked-none : (i : ℕ) → length clause ≤ i → Below mark marks → Marked mark (drop i clause) marks
  unfolding any_of
  marked-none i h low x g = rw (drop_of_length-le clause {i = i} h) (ne_eqb (get_or marks (x - 2) 0) mark (λ e. omega (arith, low.low (x - 2))))

  module _ (i k code place : ℕ) (h : Hand clause i k code place) (m : Marked mark (drop k clause) marks) where
    pub came : get_or marks place 0 ≡ mark → has (drop k clause) code ≡ true
    came q = sym (m code h.low) ∙ rw (← h.placed) (eq-eqb (get_or marks place 0) mark q)

    pub is-new : (get_or marks place 0 ≡ mark → ⊥) → has (drop k clause) code ≡ false
    is-new n = sym (m code h.low) ∙ rw (← h.placed) (ne_eqb (get_or marks place 0) mark n)

    pub marked-again : has (drop k clause) code ≡ true → Marked mark (drop i clause) marks
    marked-again f x g = m x g ∙ rw (hand-rest clause i k code place h) (sym (has-again code (drop k clause) f x))

    pub marked_more : place < length marks → Marked mark (drop i clause) (set marks place mark)
    marked_more room x g = rw (hand-rest clause i k code place h) (⊎_elim here other (eq-or-ne code x))
      where
        here : code ≡ x → eqb (get_or (set marks place mark) (x - 2) 0) mark ≡ has (code ∷ drop k clause) x
        here q =
            let same : x - 2 ≡ place = omega (arith, h.placed) in
            eq-eqb _ mark (rw same (get_or-set_same marks place mark 0 room)) ∙ sym (rw (← q) (has-head code (drop k clause)))

        other : (code ≡ x → ⊥) → eqb (get_or (set marks place mark) (x - 2) 0) mark ≡ has (code ∷ drop k clause) x
        other n = rw (get_or-set_other marks place (x - 2) mark 0 (λ q. n (omega (arith, h.placed, h.low)))) (m x g) ∙ sym (has_other code (drop k clause) x n)

-- no mark is above the one that is set
pub below_more : (mark : ℕ) (marks : List ℕ) (place : ℕ) → place < number_count → Below (mark + 1) marks → Below (mark + 1) (set marks place mark)
below_more mark marks place h low = record { room = simp length-set low.room; low = at }
  where
    at : (j : ℕ) → get_or (set marks place mark) j 0 < mark + 1
    at j =
        ⊎_elim
        (λ q. rw (← q, get_or-set_same marks place mark 0 (omega (arith, low.room))) (omega arith))
        (λ n. rw (get_or-set_other marks place j mark 0 (λ q. n (sym q))) (low.low j))
        (eq-or-ne place j)

pub below_next : (mark : ℕ) (marks : List ℕ) → Below mark marks → Below (mark + 1) marks
below_next mark marks low = record { room = low.room; low = λ j. omega (arith, low.low j) }

-- ---- literals sent elsewhere, and each to itself

pub sent-literals : (table : List ℕ) → Places table → (clause : List ℕ) → all_of (is_literal max_variables) clause ≡ true → all_of (is_literal max_variables) (sent_clause table clause) ≡ true
unfolding all_of
sent-literals table places [] e = refl
sent-literals table places (code ∷ clause) e =
    let good = and_l (is_literal max_variables code) (all_of (is_literal max_variables) clause) e in
    let at = places (code - 2) (omega (arith, literal-low max_variables code good, literal-high max_variables code good)) in
    and_both (literal-within max_variables (get_or table (code - 2) 0 + 2) (omega arith) (omega arith))
    (sent-literals table places clause (and_r (is_literal max_variables code) (all_of (is_literal max_variables) clause) e))

module _ (own : List ℕ) (places : OwnPlaces own) where
  sent-own : (clause : List ℕ) → all_of (is_literal max_variables) clause ≡ true → sent_clause own clause ≡ clause
  unfolding all_of
  sent-own [] e = refl
  sent-own (code ∷ clause) e =
      let good = and_l (is_literal max_variables code) (all_of (is_literal max_variables) clause) e in
      let low = literal-low max_variables code good in
      let at = places (code - 2) (omega (arith, literal-high max_variables code good)) in
      ap₂ (λ (x : ℕ) (l : List ℕ). x ∷ l) (omega arith) (sent-own clause (and_r (is_literal max_variables code) (all_of (is_literal max_variables) clause) e))

  pub own-places : Places own
  own-places i h = rw (places i h) h

  -- so that the sum is the clause's own key
  pub own_key : (table clause other : List ℕ) → table ≡ numbers → all_of (is_literal max_variables) clause ≡ true → other ≡ clause → key_by table (sent_clause own clause) ≡ key_of other
  own_key table clause other is good e = rw (is, sent-own clause good, e)

-- what is summed of clause c of a store is the key of clause c of its formula
pub clause_key : (own table : List ℕ) (s : Clauses) (c : ℕ) → OwnPlaces own → table ≡ numbers → c < s.count
    → key_by table (sent_clause own (clause_at s.literals.now s.ends.now c)) ≡ key_of (get_or (formula_of s) c [])
clause_key own table s c places is h = own_key own places table _ _ is (its-literals s c h) (its-clause s c h)
