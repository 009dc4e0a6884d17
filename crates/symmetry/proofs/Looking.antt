-- The image of a clause is looked for in the bucket of its key: a clause in another bucket has another key, and so other literals. Assumes nothing.
use mathlib.Core.Path.{◌≡◌, refl, sym, ap, ◌∙◌}
use mathlib.Core.Bool.{Bool, true, false, cond}
use mathlib.Core.List.{List, []}
use Prim.Native.Nat.{ℕ, ◌+◌, ◌-◌, ◌≤◌, ◌<◌}
use native.Mathlib.Omega.{arith}
use borrow.Author.Tests.{eqb-false}
use lib.ListN.{length, get_or}
use lib.Dec.{eqb}
use Rattle.buckets.proofs.Index.{last-most, next-below}
use Rattle.buckets.proofs.Walks.{Walk, begin, go_on, hit, end}
use Rattle.lists.specs.Tests.{any_of}
use Rattle.store.specs.Held.{formula_of}
use Rattle.store.specs.Stores.{clause_at}
use Rattle.store.proofs.Held.{formula-length, its-clause}
use Rattle.keys.specs.Keys.{key_of, right_keys}
use Rattle.keys.proofs.RightLaws.{right-at}
use Rattle.symmetry.specs.Sets.{same_set}
use Rattle.symmetry.specs.Index.{bucket_count, bucket_of, clause_bucket, Indexed}
use Rattle.symmetry.specs.declared.index.Index.{Index}
use Rattle.symmetry.proofs.KeyLaws.{same_keys, other_keys, bucket-low}

module _ (image : List ℕ) (formula : List (List ℕ)) (keys : List ℕ) where
  -- the clauses up to number `number`, from 1, are still to be compared
  abbrev pub Looking : ℕ → Type 0
  Looking number = Walk (same_set image) formula [] (clause_bucket keys) (bucket_of (key_of image)) number

  pub look_hit : (number c : ℕ) → Looking number → number ≡ c + 1 → same_set image (get_or formula c []) ≡ true → any_of (same_set image) formula ≡ true
  look_hit number c w e t = hit (same_set image) formula [] (clause_bucket keys) (bucket_of (key_of image)) number c w e t

  pub look-end : (number : ℕ) → Looking number → number ≡ 0 → any_of (same_set image) formula ≡ false
  look-end number w e = end (same_set image) formula [] (clause_bucket keys) (bucket_of (key_of image)) number w e

  module _ (heads nexts : List ℕ) (index : Indexed (length formula) keys heads nexts) (right : right_keys formula keys ≡ true) where
    own : (c : ℕ) → c < length formula → same_set image (get_or formula c []) ≡ true → clause_bucket keys c ≡ bucket_of (key_of image)
    own c h t = ap bucket_of (right-at formula keys right c h ∙ sym (same_keys image (get_or formula c []) t))

    pub look-begin : (b number : ℕ) → b ≡ bucket_of (key_of image) → number ≡ get_or heads b 0 → Looking number
    look-begin b number e f =
        begin (same_set image) formula [] (clause_bucket keys) (bucket_of (key_of image)) heads nexts index.holds own (omega (arith, bucket-low (key_of image), index.heads-long)) number (f ∙ ap (λ (k : ℕ). get_or heads k 0) e)

    pub look-on : (number c then : ℕ) → Looking number → number ≡ c + 1 → same_set image (get_or formula c []) ≡ false → then ≡ get_or nexts c 0 → Looking then
    look-on number c then w e t f = go_on (same_set image) formula [] (clause_bucket keys) (bucket_of (key_of image)) heads nexts index.holds own number c w e t then f

    -- the walk may begin past a first clause that has another key
    pub look-near : (first c key stored next number : ℕ) → Looking first → first ≡ c + 1 → key_of image ≡ key → stored ≡ get_or keys c 0 → next ≡ get_or nexts c 0
        → number ≡ cond (eqb stored key) first next → Looking number
    look-near first c key stored next number w e k s f is = rw is (go (eqb stored key) refl)
      where
        go : (b : Bool) → eqb stored key ≡ b → Looking (cond b first next)
        go true q = w
        go false q =
            let low : c < length formula = omega (arith, w.within) in
            look-on first c next w e (other_keys image (get_or formula c []) (λ g. eqb-false stored key q (s ∙ right-at formula keys right c low ∙ g ∙ k))) f

module _ (k : ℕ) (keys heads nexts : List ℕ) (index : Indexed k keys heads nexts) where
  -- a bucket's first is one of the k clauses, and the next after one comes before it
  pub head-within : (b number : ℕ) → b < bucket_count → number ≡ get_or heads b 0 → number ≤ k
  head-within b number h e = omega (arith, e ∙ index.holds.head b (omega (arith, index.heads-long)), last-most (clause_bucket keys) k b)

  pub next-within : (number c : ℕ) → number ≡ c + 1 → number ≤ k → get_or nexts c 0 ≤ c
  next-within number c e h = next-below (clause_bucket keys) k c heads nexts index.holds (omega arith)

  pub near_within : (first c key stored next number : ℕ) → first ≡ c + 1 → first ≤ k → next ≡ get_or nexts c 0 → number ≡ cond (eqb stored key) first next → number ≤ k
  near_within first c key stored next number e h f is = rw is (go (eqb stored key))
    where
      go : (b : Bool) → cond b first next ≤ k
      go true = h
      go false = omega (arith, next-within first c e h)

-- ---- the same by the code's index

module _ (x : Index) where
  abbrev formula : List (List ℕ)
  formula = formula_of x.keyed.clauses

  abbrev keys : List ℕ
  keys = x.keyed.keys.now

  of-formula : Indexed (length formula) keys x.heads.now x.nexts.now
  of-formula = rw (formula-length x.keyed.clauses) x.indexed

  pub first-low : (key b first : ℕ) → b ≡ bucket_of key → first ≡ get_or x.heads.now b 0 → first ≤ x.keyed.clauses.count
  first-low key b first e h = head-within x.keyed.clauses.count keys x.heads.now x.nexts.now x.indexed b first (omega (arith, bucket-low key)) h

  module _ (image : List ℕ) (key : ℕ) (own : key_of image ≡ key) where
    pub at-first : (b first : ℕ) → b ≡ bucket_of key → first ≡ get_or x.heads.now b 0 → Looking image formula keys first
    at-first b first e h = look-begin image formula keys x.heads.now x.nexts.now of-formula x.keyed.right b first (e ∙ ap bucket_of (sym own)) h

    pub at-nearer : (first next number : ℕ) → Looking image formula keys first → (first ≡ 0 → ⊥) → next ≡ get_or x.nexts.now (first - 1) 0
        → number ≡ cond (eqb (get_or keys (first - 1) 0) key) first next → Looking image formula keys number
    at-nearer first next number w some n is =
        look-near image formula keys x.heads.now x.nexts.now of-formula x.keyed.right first (first - 1) key _ next number w (omega arith) own refl n is

  -- what was compared is the clause of that number
  module _ (image : List ℕ) (number : ℕ) (w : Looking image formula keys number) (some : number ≡ 0 → ⊥) (low : number ≤ x.keyed.clauses.count) where
    abbrev other : List ℕ
    other = clause_at x.keyed.clauses.literals.now x.keyed.clauses.ends.now (number - 1)

    compared : same_set image other ≡ same_set image (get_or formula (number - 1) [])
    compared = ap (same_set image) (sym (its-clause x.keyed.clauses (number - 1) (omega arith)))

    pub at-hit : same_set image other ≡ true → any_of (same_set image) formula ≡ true
    at-hit e = look_hit image formula keys number (number - 1) w (omega arith) (sym compared ∙ e)

    pub at-next : (then : ℕ) → same_set image other ≡ false → then ≡ get_or x.nexts.now (number - 1) 0 → Looking image formula keys then
    at-next then e n = look-on image formula keys x.heads.now x.nexts.now of-formula x.keyed.right number (number - 1) then w (omega arith) (sym compared ∙ e) n
