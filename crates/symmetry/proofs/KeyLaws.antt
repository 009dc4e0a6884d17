-- Keys: clauses with the same literals have one, and of clauses that have one neither is a part of the other. And what a table of the images' places sends a clause to is its
-- image. Assumes nothing.
use mathlib.Core.Path.{◌≡◌, refl, sym, ap, ap₂, ◌∙◌}
use mathlib.Core.Bool.{true, false}
use mathlib.Core.List.{List, [], ◌∷◌}
use mathlib.Core.Logic.{⊎_elim}
use Prim.Native.Nat.{ℕ, ◌-◌, ◌≤◌, ◌<◌}
use borrow.Author.Tests.{eq-eqb, ne_eqb}
use native.Mathlib.Omega.{arith}
use lib.ListN.{length, get_or}
use Rattle.lists.specs.Tests.{all_of, has}
use Rattle.lists.proofs.Cases.{bool-ext, not_so, and_l, and_r, lt-or-le}
use Rattle.lists.proofs.Members.{all-has}
use Rattle.store.specs.Literals.{is_literal}
use Rattle.store.specs.Stores.{clause_at, max_variables}
use Rattle.store.proofs.Held.{formula-length, its-clause}
use Rattle.store.proofs.FormLaws.{literal-low}
use Rattle.numbers.specs.Numbers.{numbers}
use Rattle.keys.specs.Keys.{key_of}
use Rattle.keys.specs.Marks.{Marked, sent_clause}
use Rattle.keys.proofs.KeyLaws.{same_key}
use Rattle.keys.proofs.Counts.{whole}
use Rattle.keys.proofs.RightLaws.{right-at, right-long}
use Rattle.symmetry.specs.Sets.{within, same_set}
use Rattle.symmetry.specs.Sought.{Sought}
use Rattle.symmetry.specs.Symmetry.{clause_image}
use Rattle.symmetry.specs.Fitting.{ImagePlaces}
use Rattle.symmetry.specs.Index.{bucket_count, bucket_of}
use Rattle.symmetry.specs.declared.keyed.KeyedClauses.{KeyedClauses}
use Rattle.symmetry.proofs.SetLaws.{has-iff, same_set-iff}

-- "proved equal for equal sets" (document 01, "Forms and where they belong"), order and repeats notwithstanding
pub same_keys : (a b : List ℕ) → same_set a b ≡ true → key_of a ≡ key_of b
same_keys a b e =
    let s = (same_set-iff a b).0 e in
    same_key numbers a b (λ x. bool-ext (has a x) (has b x) (λ h. (has-iff b x).1 ((s x).0 ((has-iff a x).0 h))) (λ h. (has-iff a x).1 ((s x).1 ((has-iff b x).0 h))))

sets-part : (a b : List ℕ) → same_set a b ≡ true → within b a ≡ true
unfolding same_set
sets-part a b e = and_r (within a b) (within b a) e

-- so clauses with different keys are different
pub other_keys : (a b : List ℕ) → (key_of b ≡ key_of a → ⊥) → same_set a b ≡ false
other_keys a b n = not_so (same_set a b) (λ e. n (sym (same_keys a b e)))

-- clauses with one key are the same where each literal of one is one of the other's
pub same-by-part : (a b : List ℕ) → all_of (is_literal max_variables) a ≡ true → all_of (is_literal max_variables) b ≡ true → key_of a ≡ key_of b → same_set a b ≡ within b a
unfolding within
same-by-part a b ga gb e = bool-ext (same_set a b) (within b a) to from
  where
    to : same_set a b ≡ true → within b a ≡ true
    to s = sets-part a b s

    from : within b a ≡ true → same_set a b ≡ true
    from w =
        let part : (x : ℕ) → has b x ≡ true → has a x ≡ true = λ x h. all-has (has a) b x w h in
        let rest = whole b a gb ga (sym e) part in
        (same_set-iff a b).1 (λ x. (λ m. (has-iff b x).0 (rest x ((has-iff a x).1 m)), λ m. (has-iff a x).0 (part x ((has-iff b x).1 m))))

-- by the mark at a code's place: whether the code is one of those that have it
module _ (mark : ℕ) (codes marks : List ℕ) (marked : Marked mark codes marks) (code place : ℕ) (good : is_literal max_variables code ≡ true) (at : place ≡ code - 2) where
  low : 2 ≤ code
  low = omega (arith, literal-low max_variables code good)

  pub has-marked : get_or marks place 0 ≡ mark → has codes code ≡ true
  has-marked e = sym (marked code low) ∙ rw (← at) (eq-eqb _ mark e)

  pub has-not_marked : (get_or marks place 0 ≡ mark → ⊥) → has codes code ≡ false
  has-not_marked n = sym (marked code low) ∙ rw (← at) (ne_eqb _ mark n)

-- what has a mark has one key
pub one_key : (mark : ℕ) (marks a b : List ℕ) → Sought mark marks a → Sought mark marks b → key_of a ≡ key_of b
one_key mark marks a b s t = same_key numbers a b (λ x. ⊎_elim (λ h. none a s x h ∙ sym (none b t x h)) (λ h. sym (s.marked x h) ∙ t.marked x h) (lt-or-le x 2))
  where
    none : (l : List ℕ) → Sought mark marks l → (x : ℕ) → x < 2 → has l x ≡ false
    none l u x h = not_so (has l x) (λ e. absurd (omega (arith, literal-low max_variables x (all-has (is_literal max_variables) l x u.literals e))))

-- the image of a clause, by the places of the images
pub sent-image : (row table : List ℕ) → ImagePlaces row table → (clause : List ℕ) → all_of (is_literal (length row)) clause ≡ true → sent_clause table clause ≡ clause_image row clause
unfolding all_of clause_image
sent-image row table t [] e = refl
sent-image row table t (code ∷ clause) e =
    let test = is_literal (length row) in
    ap₂ (λ (x : ℕ) (l : List ℕ). x ∷ l) (t.sends code (and_l (test code) (all_of test clause) e)) (sent-image row table t clause (and_r (test code) (all_of test clause) e))

pub bucket-low : (key : ℕ) → bucket_of key < bucket_count
bucket-low key = omega arith

-- each clause has a key, and it is its own
module _ (k : KeyedClauses) where
  pub keys-long : k.clauses.count ≤ length k.keys.now
  keys-long = omega (arith, right-long _ _ k.right, formula-length k.clauses)

  pub stored-key : (c : ℕ) → c < k.clauses.count → get_or k.keys.now c 0 ≡ key_of (clause_at k.clauses.literals.now k.clauses.ends.now c)
  stored-key c h = right-at _ _ k.right c (omega (arith, formula-length k.clauses)) ∙ ap key_of (its-clause k.clauses c h)
