-- Comparing along the pairs of a row decides as the order over all variables does, and at the same variable, whichever variables are left out, as long as
-- these have the value of their image where all before them have. Assumes nothing.
use mathlib.Core.Path.{◌≡◌, refl, sym, ◌∙◌}
use mathlib.Core.Bool.{Bool, true, false, not, cond, ◌&&◌, ◌||◌, beq}
use mathlib.Core.List.{List, [], ◌∷◌, map}
use mathlib.Core.Logic.{◌⊎◌, inl, inr}
use Prim.Native.Nat.{ℕ, zero, suc, ◌+◌, ◌-◌, ◌*◌, ◌/◌, ◌≤◌, ◌<◌, zero-le, suc-le-suc}
use native.Mathlib.Nat.{add-zero, le_of_suc-le-suc}
use native.Mathlib.Omega.{arith}
use lib.ListN.{length, get_or}
use Rattle.lists.specs.Tests.{all_of}
use Rattle.lists.proofs.Cases.{never, and_l, and_r, and_both}
use Rattle.lists.proofs.Members.{all_in}
use Rattle.packed.specs.Order.{value_of, difference_from, first_difference, less}
use Rattle.store.specs.Literals.{is_literal}
use Rattle.store.proofs.FormLaws.{literal-within}
use Rattle.store.proofs.Formed.{Row}
use Rattle.lexleader.specs.Models.{literal_value}
use Rattle.lexleader.specs.Rows.{moved, lowers, pairs_but}
use Rattle.lexleader.specs.Deciding.{decides, deciding, lowers_along}
use Rattle.lexleader.proofs.Truth.{value-positive}
use Rattle.lexleader.proofs.Pairs.{both}

-- one variable whose own value is x and whose image has the value y: left in, or left out with the same value
one_in : (x y b : Bool) → cond (not (beq x y)) x b ≡ (not y && x || beq y x && b)
one_in true true b = refl
one_in true false b = refl
one_in false true b = refl
one_in false false b = refl

one_out : (x b : Bool) → b ≡ (not x && x || beq x x && b)
one_out true b = refl
one_out false b = refl

-- the same for the number i of that variable, where k is what is found after it
number_in : (same : Bool) (i k : ℕ) → cond (not same) (2 * i / 2) k ≡ cond same k i
number_in true i k = refl
number_in false i k = omega arith

number-out : (x : Bool) (i k : ℕ) → k ≡ cond (beq x x) k i
number-out true i k = refl
number-out false i k = refl

-- and where the image has the other value, whatever comes after
one-other : (x b c : Bool) → cond (not (beq x (not x))) x b ≡ (not (not x) && x || beq (not x) x && c)
one-other true b c = refl
one-other false b c = refl

number-other : (x : Bool) (i k m : ℕ) → cond (not (beq x (not x))) (2 * i / 2) k ≡ cond (beq x (not x)) m i
number-other true i k m = omega arith
number-other false i k m = omega arith

same_or_not : (x y : Bool) → (x ≡ y) ⊎ (x ≡ not y)
same_or_not true true = inl refl
same_or_not true false = inr refl
same_or_not false true = inr refl
same_or_not false false = inl refl

not_own : (x : Bool) → not x ≡ x → ⊥
not_own true e = never e
not_own false e = never (sym e)

-- Each variable that is left out has the value of its image where all before it have: i is the first variable of the part of a row.
abbrev pub Idle : (ℕ → Bool) → (ℕ → Bool) → ℕ → List ℕ → Type 0
Idle v out i row =
    (j : ℕ) → j < length row → out (i + j) ≡ true → ((k : ℕ) → k < j → literal_value v (get_or row k 0) ≡ v (i + k)) → literal_value v (get_or row j 0) ≡ v (i + j)

-- what is found along the pairs, of a part of a row that is compared with s
abbrev Alike : (ℕ → Bool) → (ℕ → Bool) → ℕ → List ℕ → List Bool → Type 0
Alike v out i row s =
    (lowers_along (literal_value v) (pairs_but out i row) ≡ less (map (literal_value v) row) s)
    × (deciding (literal_value v) (pairs_but out i row) ≡ difference_from i s (map (literal_value v) row))

-- from variable i on, where the variables have the values s
along-from : (v out : ℕ → Bool) (i : ℕ) (row : List ℕ) (s : List Bool) → length s ≡ length row → ((j : ℕ) → j < length s → v (i + j) ≡ get_or s j false)
    → Idle v out i row → Alike v out i row s
unfolding lowers_along deciding decides pairs_but less difference_from
along-from v out i [] [] l h idle = (refl, refl)
along-from v out i [] (b ∷ s) l h idle = absurd (omega arith)
along-from v out i (y ∷ row) [] l h idle = absurd (omega arith)
along-from v out i (y ∷ row) (b ∷ s) l h idle =
    go (out i) refl (same_or_not (literal_value v y) b)
    (along-from v out (i + 1) row s (omega arith) (λ j k. let next : i + 1 + j ≡ i + suc j = omega arith in rw next (h (suc j) (suc-le-suc k))))
  where
    value : v i ≡ b
    value = rw add-zero at (h 0 (suc-le-suc zero-le))

    own : literal_value v (2 * i) ≡ b
    own = value-positive v i ∙ value

    after : literal_value v y ≡ b → Idle v out (i + 1) row
    after e j k o f =
        let next : i + 1 + j ≡ i + suc j = omega arith in
        rw next (idle (suc j) (suc-le-suc k) (rw next at o) before)
      where
        before : (m : ℕ) → m < suc j → literal_value v (get_or (y ∷ row) m 0) ≡ v (i + m)
        before zero q = rw add-zero (e ∙ sym value)
        before (suc m) q = let next : i + suc m ≡ i + 1 + m = omega arith in rw next (f m (le_of_suc-le-suc q))

    go : (c : Bool) → out i ≡ c → (literal_value v y ≡ b) ⊎ (literal_value v y ≡ not b) → (Idle v out (i + 1) row → Alike v out (i + 1) row s)
        → let pairs = cond c (pairs_but out (i + 1) row) (record { x = 2 * i; y = y } ∷ pairs_but out (i + 1) row) in
        (lowers_along (literal_value v) pairs ≡ less (map (literal_value v) (y ∷ row)) (b ∷ s))
        × (deciding (literal_value v) pairs ≡ difference_from i (b ∷ s) (map (literal_value v) (y ∷ row)))
    go true o (inl e) rest = let found = rest (after e) in rw e (found.0 ∙ one_out b _, found.1 ∙ number-out b i _)
    go true o (inr e) rest =
        let same : literal_value v y ≡ v i = rw add-zero at (idle 0 (suc-le-suc zero-le) (rw add-zero o) (λ k q. absurd (omega arith))) in
        absurd (not_own b (sym e ∙ same ∙ value))
    go false o (inl e) rest = let found = rest (after e) in rw (own, e, found.0, found.1) (one_in b b _, number_in (beq b b) i _)
    go false o (inr e) rest = rw (own, e) (one-other b _ _, number-other b i _ _)

both-from : (out : ℕ → Bool) (n i : ℕ) (row : List ℕ) → 1 ≤ i → i + length row ≤ n + 1 → all_of (is_literal n) row ≡ true
    → all_of (both (is_literal n)) (pairs_but out i row) ≡ true
unfolding all_of pairs_but both
both-from out n i [] low high h = refl
both-from out n i (y ∷ row) low high h = go (out i) (both-from out n (i + 1) row (omega arith) (omega arith) rest)
  where
    rest : all_of (is_literal n) row ≡ true
    rest = and_r (is_literal n y) (all_of (is_literal n) row) h

    own : is_literal n (2 * i) ≡ true
    own = literal-within n (2 * i) (omega arith) (omega arith)

    go : (c : Bool) → all_of (both (is_literal n)) (pairs_but out (i + 1) row) ≡ true
        → all_of (both (is_literal n)) (cond c (pairs_but out (i + 1) row) (record { x = 2 * i; y = y } ∷ pairs_but out (i + 1) row)) ≡ true
    go true pairs = pairs
    go false pairs = and_both (and_both own (and_l (is_literal n y) (all_of (is_literal n) row) h)) pairs

module _ (out : ℕ → Bool) (row : List ℕ) (a : List Bool) (size : length a ≡ length row) (idle : Idle (value_of a) out 1 row) where
  found : (lowers_along (literal_value (value_of a)) (pairs_but out 1 row) ≡ lowers row a)
      × (deciding (literal_value (value_of a)) (pairs_but out 1 row) ≡ first_difference a (moved row a))
  unfolding lowers moved
  found = along-from (value_of a) out 1 row a size (λ j k. let place : 1 + j - 1 ≡ j = omega arith in rw place) idle

  pub along-but : lowers_along (literal_value (value_of a)) (pairs_but out 1 row) ≡ lowers row a
  along-but = found.0

  pub deciding-but : deciding (literal_value (value_of a)) (pairs_but out 1 row) ≡ first_difference a (moved row a)
  deciding-but = found.1

pub but-within : (out : ℕ → Bool) (n : ℕ) (row : List ℕ) → Row n row → all_of (both (is_literal n)) (pairs_but out 1 row) ≡ true
but-within out n row r =
    both-from out n 1 row (omega arith) (omega (arith, r.size))
    (all_in (is_literal n) row 0 (λ i h.
    let inside : i < n = omega (arith, r.size) in
    literal-within n (get_or row i 0) (r.low i inside) (r.high i inside)))
