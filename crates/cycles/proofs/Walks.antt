-- The variables that a walk meets until it is back: one step of it, and membership of a cycle as a walk of any length. Assumes nothing.
use mathlib.Core.Path.{◌≡◌, refl, sym, ap, ◌∙◌}
use mathlib.Core.Bool.{Bool, true, false, cond, or-true}
use mathlib.Core.List.{List, [], ◌∷◌}
use mathlib.Core.Logic.{◌⊎◌, inl, inr}
use Prim.Native.Nat.{ℕ, zero, suc, ◌+◌, ◌-◌, ◌≤◌, zero-le}
use native.Mathlib.Nat.{not-suc-le-zero, le_of_suc-le-suc}
use native.Mathlib.Omega.{arith}
use borrow.Author.Tests.{eqb-true, eq-eqb, ne_eqb}
use lib.ListN.{length}
use lib.Dec.{eqb}
use Rattle.lists.specs.Tests.{any_of, has}
use Rattle.lists.proofs.Cases.{never, or_cases, eq-or-ne}
use Rattle.cycles.specs.Cycles.{sent_to, met_from, cycle_of}
use Rattle.store.proofs.Formed.{Row}
use Rattle.cycles.proofs.Sent.{sent-low, sent-high}
use Rattle.cycles.proofs.Returns.{after, after-add, returns}

-- the variables met from v on until z
abbrev pub met : List ℕ → ℕ → ℕ → List ℕ
met row z v = met_from row z (length row) v

-- z is met from v on, within as many steps as the row is long
abbrev pub Closes : List ℕ → ℕ → ℕ → Type 0
Closes row z v = (k : ℕ) × (k ≤ length row) × (after row k v ≡ z)

-- y is met from x on
abbrev pub Reaches : List ℕ → ℕ → ℕ → Type 0
Reaches row x y = (k : ℕ) × (after row k x ≡ y)

module _ (row : List ℕ) (z : ℕ) where
  pub from_end : (most j : ℕ) → j ≡ z → met_from row z most j ≡ []
  unfolding met_from
  from_end zero j e = refl
  from_end (suc most) j e = rw (eq-eqb j z e)

  pub from_step : (most j : ℕ) → (j ≡ z → ⊥) → met_from row z (suc most) j ≡ j ∷ met_from row z most (sent_to row j)
  unfolding met_from
  from_step most j ne = rw (ne_eqb j z ne)

  -- more steps than are needed to meet z make no difference
  enough : (k a b j : ℕ) → k ≤ a → k ≤ b → after row k j ≡ z → met_from row z a j ≡ met_from row z b j
  unfolding after
  enough zero a b j ha hb e = from_end a j e ∙ sym (from_end b j e)
  enough (suc k) zero b j ha hb e = absurd (not-suc-le-zero ha)
  enough (suc k) (suc a) zero j ha hb e = absurd (not-suc-le-zero hb)
  enough (suc k) (suc a) (suc b) j ha hb e = go (eq-or-ne j z) (enough k a b (sent_to row j) (le_of_suc-le-suc ha) (le_of_suc-le-suc hb) e)
    where
      go : (j ≡ z) ⊎ (j ≡ z → ⊥) → met_from row z a (sent_to row j) ≡ met_from row z b (sent_to row j) → met_from row z (suc a) j ≡ met_from row z (suc b) j
      go (inl q) rest = from_end (suc a) j q ∙ sym (from_end (suc b) j q)
      go (inr q) rest = from_step a j q ∙ ap (λ (l : List ℕ). j ∷ l) rest ∙ sym (from_step b j q)

  pub met-end : (v : ℕ) → v ≡ z → met row z v ≡ []
  met-end v e = from_end (length row) v e

  pub closes-step : (v : ℕ) → (v ≡ z → ⊥) → Closes row z v → Closes row z (sent_to row v)
  unfolding after
  closes-step v ne (zero, h, e) = absurd (ne e)
  closes-step v ne (suc k, h, e) = (k, omega arith, e)

  pub met-step : (v : ℕ) → (v ≡ z → ⊥) → Closes row z v → met row z v ≡ v ∷ met row z (sent_to row v)
  unfolding after
  met-step v ne (zero, h, e) = absurd (ne e)
  met-step v ne (suc k, h, e) =
      let m : ℕ = length row - 1 in
      let size : length row ≡ suc m = omega arith in
      ap (λ (most : ℕ). met_from row z most v) size
      ∙ from_step m v ne
      ∙ ap (λ (l : List ℕ). v ∷ l) (enough k m (length row) (sent_to row v) (omega arith) (omega arith) e)

  from-reach : (most j x : ℕ) → has (met_from row z most j) x ≡ true → Reaches row j x
  unfolding met_from any_of after
  from-reach zero j x h = never h
  from-reach (suc most) j x h = go (eqb j z) h (λ h'. from-reach most (sent_to row j) x h')
    where
      go : (c : Bool) → has (cond c [] (j ∷ met_from row z most (sent_to row j))) x ≡ true
          → (has (met_from row z most (sent_to row j)) x ≡ true → Reaches row (sent_to row j) x) → Reaches row j x
      go true h rest = never h
      go false h rest =
          or_cases (eqb j x) (has (met_from row z most (sent_to row j)) x) h
          (λ e. (0, eqb-true j x e))
          (λ e. let t = rest e in (suc t.0, t.1))

  -- what is in the cycle of z is met from z on
  pub member-reach : (x : ℕ) → has (cycle_of row z) x ≡ true → Reaches row z x
  unfolding cycle_of any_of after
  member-reach x h =
      or_cases (eqb z x) (has (met row z (sent_to row z)) x) h
      (λ e. (0, eqb-true z x e))
      (λ e. let t = from-reach (length row) (sent_to row z) x e in (suc t.0, t.1))

pub reach-trans : (row : List ℕ) (x y z : ℕ) → Reaches row x y → Reaches row y z → Reaches row x z
reach-trans row x y z (k, e) (m, f) = (k + m, after-add row k m x ∙ ap (after row m) e ∙ f)

module _ (n : ℕ) (row : List ℕ) (r : Row n row) where
  pub closes-first : (z : ℕ) → 1 ≤ z → z ≤ n → Closes row z (sent_to row z)
  unfolding after
  closes-first z low high = let t = returns n row r z low high in (t.0, omega (arith, t.1, r.size), t.2)

  back : (k x : ℕ) → 1 ≤ x → x ≤ n → Reaches row (after row k x) x
  unfolding after
  back zero x low high = (0, refl)
  back (suc k) x low high =
      let t = back k (sent_to row x) (sent-low n row r x low high) (sent-high n row r x low high) in
      let c = closes-first x low high in
      reach-trans row (after row k (sent_to row x)) (sent_to row x) x t (c.0, c.2)

  -- what is met from x on meets x
  pub reach-sym : (x y : ℕ) → 1 ≤ x → x ≤ n → Reaches row x y → Reaches row y x
  reach-sym x y low high (k, e) = rw e at (back k x low high)

  reach-from : (z : ℕ) → 1 ≤ z → z ≤ n → (k v x : ℕ) → Closes row z v → ((y : ℕ) → has (met row z v) y ≡ true → has (cycle_of row z) y ≡ true)
      → after row k v ≡ x → has (cycle_of row z) x ≡ true
  unfolding after cycle_of any_of
  reach-from z low high zero v x c inside e = go (eq-or-ne v z)
    where
      go : (v ≡ z) ⊎ (v ≡ z → ⊥) → has (cycle_of row z) x ≡ true
      go (inl q) = rw (eq-eqb z x (sym q ∙ e))
      go (inr q) = inside x (rw (met-step row z v q c, eq-eqb v x e))
  reach-from z low high (suc k) v x c inside e =
      go (eq-or-ne v z) (λ c' inside'. reach-from z low high k (sent_to row v) x c' inside' e)
    where
      go : (v ≡ z) ⊎ (v ≡ z → ⊥)
          → (Closes row z (sent_to row v) → ((y : ℕ) → has (met row z (sent_to row v)) y ≡ true → has (cycle_of row z) y ≡ true) → has (cycle_of row z) x ≡ true)
          → has (cycle_of row z) x ≡ true
      go (inl q) rest = rest (rw q (closes-first z low high)) (λ y h. rw (rw q at h) (or-true (eqb z y)))
      go (inr q) rest = rest (closes-step row z v q c) (λ y h. inside y (rw (met-step row z v q c, h) (or-true (eqb v y))))

  -- what is met from z on is in its cycle
  pub reach-member : (z x : ℕ) → 1 ≤ z → z ≤ n → Reaches row z x → has (cycle_of row z) x ≡ true
  unfolding after any_of
  reach-member z x low high (k, e) =
      reach-from z low high k z x (0, zero-le, refl) (λ y h. never (rw (met-end row z z refl) at h)) e
