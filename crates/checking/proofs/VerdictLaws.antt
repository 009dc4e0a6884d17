-- What a verdict says: yes just where every clause holds, and else which clause is the first that does not. Assumes nothing.
use mathlib.Core.Path.{◌≡◌, refl, ap, ◌∙◌}
use mathlib.Core.Bool.{Bool, true, false, cond, ◌&&◌}
use mathlib.Core.List.{List, [], ◌∷◌}
use mathlib.Core.Logic.{◌↔◌}
use Prim.Native.Nat.{ℕ, zero, suc, ◌+◌, ◌<◌, zero-le, suc-le-suc}
use native.Mathlib.Nat.{not-suc-le-zero, le_of_suc-le-suc}
use native.Mathlib.Omega.{arith}
use lib.ListN.{length, get_or}
use Rattle.lists.specs.Tests.{all_of}
use Rattle.lists.proofs.Cases.{never}
use Rattle.lexleader.specs.Models.{clause_holds, formula_holds}
use Rattle.checking.specs.Checking.{yes, false_at, false_from}

module _ (v : ℕ → Bool) where
  pub yes_iff : (q : ℕ) (clauses : List (List ℕ)) → (false_from q v clauses ≡ yes) ↔ (formula_holds v clauses ≡ true)
  unfolding false_from formula_holds all_of
  yes_iff q [] = (λ e. refl, λ e. refl)
  yes_iff q (clause ∷ clauses) = by (clause_holds v clause) (yes_iff (q + 1) clauses)
    where
      by : (b : Bool) → (false_from (q + 1) v clauses ≡ yes) ↔ (formula_holds v clauses ≡ true)
          → (cond b (false_from (q + 1) v clauses) (false_at q) ≡ yes) ↔ ((b && all_of (clause_holds v) clauses) ≡ true)
      by true rest = rest
      by false rest = (λ e. let z : ◌≡◌ {A = ℕ} 0 1 = cc in absurd (omega arith), λ e. never e)

  -- clause k, from 0, is the first that is false
  pub record FirstFalse (clauses : List (List ℕ)) (k : ℕ) : Type 0 where
    pub within : k < length clauses
    pub here : clause_holds v (get_or clauses k []) ≡ false
    pub before : (j : ℕ) → j < k → clause_holds v (get_or clauses j []) ≡ true

  later : {clauses : List (List ℕ)} {k : ℕ} (clause : List ℕ) → clause_holds v clause ≡ true → FirstFalse clauses k → FirstFalse (clause ∷ clauses) (suc k)
  later {clauses} {k} clause holds f = record { within = suc-le-suc f.within; here = f.here; before = before }
    where
      before : (j : ℕ) → j < suc k → clause_holds v (get_or (clause ∷ clauses) j []) ≡ true
      before zero h = holds
      before (suc j) h = f.before j (le_of_suc-le-suc h)

  pub false-at : (from q : ℕ) (clauses : List (List ℕ)) → false_from from v clauses ≡ false_at q → (k : ℕ) × (from + k ≡ q) × FirstFalse clauses k
  unfolding false_from
  false-at from q [] e = let z : ◌≡◌ {A = ℕ} 0 1 = cc in absurd (omega arith)
  false-at from q (clause ∷ clauses) e = by (clause_holds v clause) refl (false-at (from + 1) q clauses) e
    where
      by : (b : Bool) → clause_holds v clause ≡ b → (false_from (from + 1) v clauses ≡ false_at q → (k : ℕ) × (from + 1 + k ≡ q) × FirstFalse clauses k)
          → cond b (false_from (from + 1) v clauses) (false_at from) ≡ false_at q → (k : ℕ) × (from + k ≡ q) × FirstFalse (clause ∷ clauses) k
      by true holds rest e = let r = rest e in (suc r.0, omega (arith, r.1), later clause holds r.2)
      by false fails rest e =
          let same : from ≡ q = cc in
          (0, omega arith, record { within = suc-le-suc zero-le; here = fails; before = λ j h. absurd (not-suc-le-zero h) })

  pub at-false : (from k : ℕ) (clauses : List (List ℕ)) → FirstFalse clauses k → false_from from v clauses ≡ false_at (from + k)
  unfolding false_from
  at-false from k [] f = absurd (not-suc-le-zero f.within)
  at-false from zero (clause ∷ clauses) f = let none : from + 0 ≡ from = omega arith in rw (f.here, none)
  at-false from (suc k) (clause ∷ clauses) f =
      let on : from + 1 + k ≡ from + suc k = omega arith in
      rw (f.before 0 (suc-le-suc zero-le))
      (at-false (from + 1) k clauses (record { within = le_of_suc-le-suc f.within; here = f.here; before = λ j h. f.before (suc j) (suc-le-suc h) }) ∙ ap false_at on)
