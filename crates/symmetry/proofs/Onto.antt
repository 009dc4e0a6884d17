-- A map of a formula's clauses into themselves that keeps different clauses different, as sets, reaches every clause. Assumes nothing.
use mathlib.Core.Path.{◌≡◌, sym, ap, ◌∙◌}
use mathlib.Core.List.Memᴰ
use mathlib.Core.List.{List, [], map, Memᴰ}
use Prim.Native.Nat.{ℕ, zero, suc, ◌+◌, ◌-◌, ◌<◌}
use native.Mathlib.Nat.{zero-add, suc-add}
use native.Mathlib.Omega.{arith}
use lib.ListN.{length, get_or}
use Rattle.symmetry.specs.Sets.{SameSet, Among}
use Rattle.symmetry.proofs.SetLaws.{mem-at, same-eq, same-sym, same-trans}
use Rattle.lists.proofs.Finite.{twice}

module _ (f : List ℕ → List ℕ) (formula : List (List ℕ)) where
  -- a clause of the formula
  abbrev Clause : Type 0
  Clause = (c : List ℕ) × Memᴰ c formula

  module _ (into : (c : Clause) → Among (f c.0) formula) (one : (a b : Clause) → SameSet (f a.0) (f b.0) → SameSet a.0 b.0) where
    -- From a clause c on, follow the images: walk c 0, walk c 1, .. Among more of them than the formula has clauses two stand at one place. Steps can
    -- be taken back, until the first of the two is c; then c is the image of the clause before the second.
    walk : Clause → ℕ → Clause
    walk c zero = c
    walk c (suc k) = let a = into (walk c k) in (a.twin, a.member)

    walk-add : (c : Clause) (d k : ℕ) → walk (walk c d) k ≡ walk c (k + d)
    unfolding walk
    walk-add c d zero = rw zero-add
    walk-add c d (suc k) = rw suc-add (ap (λ (e : Clause). let a = into e in (a.twin, a.member)) (walk-add c d k))

    -- steps are taken back
    undo : (c e : Clause) (k : ℕ) → SameSet (walk c k).0 (walk e k).0 → SameSet c.0 e.0
    unfolding walk
    undo c e zero s = s
    undo c e (suc k) s = undo c e k (one (walk c k) (walk e k) (same-trans (into (walk c k)).same (same-trans s (same-sym (into (walk e k)).same))))

    pub onto : (c : Clause) → Among c.0 (map f formula)
    unfolding walk
    onto c =
        let at : (k : ℕ) → (i : ℕ) × (i < length formula) × (get_or formula i [] ≡ (walk c k).0) = λ k. mem-at [] (walk c k).1 in
        let t = twice (length formula) (λ k. (at k).0) (λ k h. (at k).1) in
        let d : ℕ = t.second - t.first - 1 in
        let split : t.second ≡ t.first + suc d = omega (arith, t.order) in
        let meet : (walk c t.first).0 ≡ (walk (walk c (suc d)) t.first).0 =
        sym (at t.first).2
        ∙ ap (λ (i : ℕ). get_or formula i []) t.same
        ∙ (at t.second).2
        ∙ ap (λ (k : ℕ). (walk c k).0) split
        ∙ ap (λ (x : Clause). x.0) (sym (walk-add c (suc d) t.first)) in
        let home : SameSet c.0 (walk c (suc d)).0 = undo c (walk c (suc d)) t.first (same-eq meet) in
        record { twin = f (walk c d).0; member = Memᴰ.map f (walk c d).1; same = same-trans home (same-sym (into (walk c d)).same) }
