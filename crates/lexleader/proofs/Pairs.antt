-- What the clauses of any list of pairs say: the comparison along the pairs does not lower, and the auxiliaries are set. Assumes nothing.
use mathlib.Core.Path.{◌≡◌, refl, sym}
use mathlib.Core.Bool.{Bool, true, false, not, cond, ◌&&◌, ◌||◌, beq, and-false, or-false, or-true}
use mathlib.Core.List.Memᴰ
use mathlib.Core.List.{List, [], ◌∷◌}
use Prim.Native.Nat.{ℕ, ◌+◌}
use Rattle.lists.specs.Tests.{any_of, all_of}
use Rattle.lists.proofs.Cases.{and_l, and_r}
use Rattle.lists.proofs.Tests.{all-mem}
use Rattle.lexleader.specs.Models.{literal_value, clause_holds, formula_holds}
use Rattle.lexleader.specs.Rows.{Pair}
use Rattle.lexleader.specs.Deciding.{decides, deciding, lowers_along, SameAlong}
use Rattle.lexleader.specs.Made.{later_clauses, pair_clauses, agrees, settings_after}
use Rattle.lexleader.proofs.Truth.{value-opposite, value-positive}
use Rattle.lexleader.proofs.Values.{reads}

-- One auxiliary, by cases: g is the value of the one before it, e its own, x and y those of its pair. m and t are the rest of the clauses, b is the
-- rest of the comparison, R the rest of the settings.
stage : (g e x y m t b : Bool) (R : Bool → Bool) → ((not e || m) && t) ≡ ((not e || not b) && R e)
    → ((not g || (not x || y))
    && ((not e || g)
    && ((not e || (not x || y))
    && ((not e || (x || not y))
    && ((e || (not g || (x || y)))
    && ((e || (not g || (not x || not y)))
    && ((not e || m) && t)))))))
    ≡ ((not g || not (cond (not (beq x y)) x b)) && (beq e (g && beq x y) && R (g && beq x y)))
stage true true true true m t b R h = h
stage true true true false m t b R h = refl
stage true true false true m t b R h = refl
stage true true false false m t b R h = h
stage true false true true m t b R h = sym (and-false (not b))
stage true false true false m t b R h = refl
stage true false false true m t b R h = h
stage true false false false m t b R h = sym (and-false (not b))
stage false true x y m t b R h = refl
stage false false x y m t b R h = h

-- the last pair, which has no auxiliary
ends : (g x y : Bool) → ((not g || (not x || y)) && true) ≡ ((not g || not (cond (not (beq x y)) x false)) && true)
ends true true true = refl
ends true true false = refl
ends true false true = refl
ends true false false = refl
ends false x y = refl

module _ (v : ℕ → Bool) where
  later-say : (d : ℕ) (q : Pair) (pairs : List Pair)
      → ((not (v d) || (not (literal_value v q.x) || literal_value v q.y)) && formula_holds v (later_clauses d q pairs))
      ≡ ((not (v d) || not (lowers_along (literal_value v) (q ∷ pairs))) && reads v (d + 1) (settings_after v (v d) (q ∷ pairs)))
  unfolding formula_holds clause_holds all_of any_of later_clauses lowers_along decides reads settings_after agrees
  later-say d q [] = ends (v d) (literal_value v q.x) (literal_value v q.y)
  later-say d q (p ∷ pairs) =
      simp (value-opposite v, value-positive v, or-false)
      (stage (v d) (v (d + 1)) (literal_value v q.x) (literal_value v q.y) (not (literal_value v p.x) || literal_value v p.y)
      (formula_holds v (later_clauses (d + 1) p pairs)) (lowers_along (literal_value v) (p ∷ pairs))
      (λ g. reads v (d + 1 + 1) (settings_after v g (p ∷ pairs))) (later-say (d + 1) p pairs))

  pub pairs-say : (e : ℕ) (pairs : List Pair)
      → formula_holds v (pair_clauses e pairs) ≡ (not (lowers_along (literal_value v) pairs) && reads v e (settings_after v true pairs))
  unfolding formula_holds clause_holds all_of any_of pair_clauses lowers_along decides reads settings_after agrees
  pairs-say e [] = refl
  pairs-say e (q ∷ []) = simp (value-opposite v, or-false) (ends true (literal_value v q.x) (literal_value v q.y))
  pairs-say e (q ∷ p ∷ pairs) =
      simp (value-opposite v, value-positive v, or-false)
      (simp or-true at (stage true (v e) (literal_value v q.x) (literal_value v q.y) (not (literal_value v p.x) || literal_value v p.y)
      (formula_holds v (later_clauses e p pairs)) (lowers_along (literal_value v) (p ∷ pairs))
      (λ g. reads v (e + 1) (settings_after v g (p ∷ pairs))) (later-say e p pairs)))

-- what is found along the pairs depends on the values of their literals alone
module _ (value other : ℕ → Bool) where
  pub lowers-same : (pairs : List Pair) → SameAlong pairs value other → lowers_along value pairs ≡ lowers_along other pairs
  unfolding lowers_along decides
  lowers-same [] s = refl
  lowers-same (q ∷ pairs) s = rw ((s q (Memᴰ.head refl)).0, (s q (Memᴰ.head refl)).1, lowers-same pairs (λ p m. s p (Memᴰ.tail m)))

  pub deciding-same : (pairs : List Pair) → SameAlong pairs value other → deciding value pairs ≡ deciding other pairs
  unfolding deciding decides
  deciding-same [] s = refl
  deciding-same (q ∷ pairs) s = rw ((s q (Memᴰ.head refl)).0, (s q (Memᴰ.head refl)).1, deciding-same pairs (λ p m. s p (Memᴰ.tail m)))

-- a test of both literals of a pair
unfoldable pub both : (ℕ → Bool) → Pair → Bool
both p q = p q.x && p q.y

-- two ways to give values that are the same on the pairs' literals
module _ (p : ℕ → Bool) (v w : ℕ → Bool) (same : (code : ℕ) → p code ≡ true → literal_value v code ≡ literal_value w code) where
  agrees-same : (q : Pair) → both p q ≡ true → agrees v q ≡ agrees w q
  unfolding agrees both
  agrees-same q h = rw (same q.x (and_l (p q.x) (p q.y) h), same q.y (and_r (p q.x) (p q.y) h))

  pub along-same : (pairs : List Pair) → all_of (both p) pairs ≡ true → lowers_along (literal_value v) pairs ≡ lowers_along (literal_value w) pairs
  unfolding both
  along-same pairs h = lowers-same (literal_value v) (literal_value w) pairs (λ q m.
      let l = all-mem (both p) m h in
      (same q.x (and_l (p q.x) (p q.y) l), same q.y (and_r (p q.x) (p q.y) l)))

  pub settings-same : (before : Bool) (pairs : List Pair) → all_of (both p) pairs ≡ true → settings_after v before pairs ≡ settings_after w before pairs
  unfolding all_of settings_after
  settings-same before [] h = refl
  settings-same before (q ∷ []) h = refl
  settings-same before (q ∷ r ∷ pairs) h =
      let l = and_l (both p q) (all_of (both p) (r ∷ pairs)) h in
      rw (agrees-same q l, settings-same (before && agrees w q) (r ∷ pairs) (and_r (both p q) (all_of (both p) (r ∷ pairs)) h))
