-- Marks, and a store into them. Assumes nothing.
use mathlib.Core.Path.{◌≡◌, refl, sym, ◌∙◌}
use mathlib.Core.Bool.{Bool, true, false, cond, not, ◌&&◌, ◌||◌, and-false, and-true, or-true, or-false}
use mathlib.Core.List.{List, [], ◌∷◌}
use mathlib.Core.Logic.{⊎_elim}
use Prim.Native.Nat.{ℕ, ◌<◌}
use native.Mathlib.Omega.{arith}
use lib.ListN.{get_or, set, length-set, replicate, length-replicate, get_or-replicate, get_or-eq_default}
use lib.Dec.{eqb}
use Rattle.lists.specs.Tests.{any_of, has}
use Rattle.lists.proofs.Cases.{lt-or-le}
use Rattle.permutation.specs.Names.{Marks}
use Rattle.permutation.proofs.Lists.{stored}

unmarked : (v : ℕ) → get_or (replicate 513 false) v false ≡ false
unmarked v =
    ⊎_elim (get_or-replicate 513 v false false)
    (λ h. get_or-eq_default (replicate 513 false) false {n = v} (omega (arith, length-replicate 513 false)))
    (lt-or-le v 513)

-- a store into the marks, and the test that they pass then
mark : (test : ℕ → Bool) (marks : List Bool) (v : ℕ) (b : Bool) (more : ℕ → Bool) → Marks test marks → v < 513
    → ((u : ℕ) → cond (eqb v u) b (test u) ≡ more u) → Marks more (set marks v b)
mark test marks v b more m h e = record {
  room = simp length-set m.room;
  is = λ u. stored marks v u b false (omega (arith, m.room)) ∙ rw (m.is u) (e u);
}

-- ---- the names seen so far

pub seen_none : Marks (has []) (replicate 513 false)
unfolding any_of
seen_none = record { room = length-replicate 513 false; is = unmarked }

pub seen_more : (seen more : List ℕ) (marks : List Bool) (v : ℕ) → Marks (has seen) marks → v < 513
    → ((u : ℕ) → has more u ≡ (has seen u || eqb v u)) → Marks (has more) (set marks v true)
seen_more seen more marks v m h e = mark (has seen) marks v true (has more) m h (λ u. by (eqb v u) (has seen u) ∙ sym (e u))
  where
    by : (a b : Bool) → cond a true b ≡ (b || a)
    by true b = sym (or-true b)
    by false b = sym (or-false b)

-- ---- the names that no value has used

abbrev pub is_free : List ℕ → List ℕ → ℕ → Bool
is_free names used v = has names v && not (has used v)

pub free-none : (names : List ℕ) (marks : List Bool) → Marks (has names) marks → Marks (is_free names []) marks
unfolding any_of
free-none names marks m = record { room = m.room; is = λ v. m.is v ∙ sym (and-true (has names v)) }

pub free_more : (names used : List ℕ) (marks : List Bool) (v : ℕ) → Marks (is_free names used) marks → v < 513
    → Marks (is_free names (v ∷ used)) (set marks v false)
unfolding any_of
free_more names used marks v m h =
    mark (is_free names used) marks v false (is_free names (v ∷ used)) m h (λ u. by (eqb v u) (has names u) (has used u))
  where
    by : (a b d : Bool) → cond a false (b && not d) ≡ (b && not (a || d))
    by true b d = sym (and-false b)
    by false b d = refl
