-- A variable that is not moved is left out, one that is sent to its own negation is not; each cycle of a row has one largest variable; and where all are left out nothing is moved. Assumes nothing.
use mathlib.Core.Path.{◌≡◌, refl, sym, ◌∙◌}
use mathlib.Core.Bool.{Bool, true, false, not, cond, ◌&&◌, and-false, or-true}
use mathlib.Core.List.{List, [], ◌∷◌}
use mathlib.Core.Logic.{◌↔◌}
use Prim.Native.Nat.{ℕ, zero, suc, ◌+◌, ◌-◌, ◌*◌, ◌%◌, ◌≤◌, ◌<◌}
use native.Mathlib.Omega.{arith}
use borrow.Author.Tests.{le-leb, leb-true, leb-false, eq-eqb, ne_eqb, eqb-false, not-true}
use lib.ListN.{get_or}
use lib.Dec.{eqb, leb}
use Rattle.lists.specs.Tests.{all_of, any_of, has}
use Rattle.lists.proofs.Cases.{never, and_l, and_r}
use Rattle.lists.proofs.Members.{all-has}
use Rattle.store.specs.Literals.{is_negative}
use Rattle.store.proofs.Formed.{Row}
use Rattle.cycles.specs.Cycles.{sent_to, turns, cycle_of, is_largest, oddly, turns_odd, left_out}
use Rattle.cycles.proofs.Sent.{sent-low, sent-high}
use Rattle.cycles.proofs.Returns.{after, after-low, after-high}
use Rattle.cycles.proofs.Visiting.{cond-id}
use Rattle.cycles.proofs.Walks.{Reaches, met-end, member-reach, reach-sym, reach-trans, reach-member}

pub unmoved-out : (row : List ℕ) (i : ℕ) → get_or row (i - 1) 0 ≡ 2 * i → left_out row i ≡ true
unfolding left_out is_largest turns_odd cycle_of oddly turns all_of sent_to
unmoved-out row i image =
    let own : sent_to row i ≡ i = rw image (omega arith) in
    rw (met-end row i (sent_to row i) own, le-leb i i (omega arith), image, ne_eqb (2 * i % 2) 1 (omega arith))

-- and one that is sent to its own negation is not
pub turned-in : (row : List ℕ) (i : ℕ) → get_or row (i - 1) 0 ≡ 2 * i + 1 → left_out row i ≡ false
unfolding left_out turns_odd cycle_of oddly turns sent_to
turned-in row i image =
    let own : sent_to row i ≡ i = rw image (omega arith) in
    rw (met-end row i (sent_to row i) own, image, eq-eqb ((2 * i + 1) % 2) 1 (omega arith)) (and-false (is_largest row i))

-- ---- each cycle has one largest variable

-- a test that fails for some element
fails-at : (q : ℕ → Bool) (l : List ℕ) → all_of q l ≡ false → (x : ℕ) × (has l x ≡ true) × (q x ≡ false)
unfolding all_of any_of
fails-at q [] e = never (sym e)
fails-at q (y ∷ l) e = go (q y) refl e (λ e'. fails-at q l e')
  where
    go : (b : Bool) → q y ≡ b → (b && all_of q l) ≡ false → (all_of q l ≡ false → (x : ℕ) × (has l x ≡ true) × (q x ≡ false))
        → (x : ℕ) × (has (y ∷ l) x ≡ true) × (q x ≡ false)
    go true f h rest = let t = rest h in (t.0, rw t.1 (or-true (eqb y t.0)), t.2)
    go false f h rest = (y, rw (eq-eqb y y refl), f)

module _ (n : ℕ) (row : List ℕ) (r : Row n row) where
  most : (z w : ℕ) → 1 ≤ z → z ≤ n → is_largest row z ≡ true → Reaches row z w → w ≤ z
  unfolding is_largest
  most z w low high largest reaches = leb-true w z (all-has (λ j. leb j z) (cycle_of row z) w largest (reach-member n row r z w low high reaches))

  one-largest : (z w : ℕ) → 1 ≤ z → z ≤ n → 1 ≤ w → w ≤ n → is_largest row z ≡ true → is_largest row w ≡ true → Reaches row z w → z ≡ w
  one-largest z w a b c d lz lw reaches =
      let le = most z w a b lz reaches in
      let ge = most w z c d lw (reach-sym n row r z w a b reaches) in
      omega arith

  -- a larger variable of the same cycle, where a variable is not the largest
  larger : (j : ℕ) → 1 ≤ j → j ≤ n → is_largest row j ≡ false → (y : ℕ) × (j < y) × (y ≤ n) × Reaches row j y
  unfolding is_largest
  larger j low high e =
      let t = fails-at (λ y. leb y j) (cycle_of row j) e in
      let reaches = member-reach row j t.0 t.1 in
      (t.0, leb-false t.0 j t.2, rw reaches.1 at (after-high n row r reaches.0 j low high), reaches)

  climb : (steps j : ℕ) → n ≤ j + steps → 1 ≤ j → j ≤ n → (z : ℕ) × (1 ≤ z) × (z ≤ n) × (is_largest row z ≡ true) × Reaches row j z
  unfolding after
  climb zero j fuel low high = go (is_largest row j) refl
    where
      go : (b : Bool) → is_largest row j ≡ b → (z : ℕ) × (1 ≤ z) × (z ≤ n) × (is_largest row z ≡ true) × Reaches row j z
      go true e = (j, low, high, e, (0, refl))
      go false e = let t = larger j low high e in absurd (omega (arith, t.1, t.2))
  climb (suc steps) j fuel low high = go (is_largest row j) refl (λ y f l h. climb steps y f l h)
    where
      go : (b : Bool) → is_largest row j ≡ b → ((y : ℕ) → n ≤ y + steps → 1 ≤ y → y ≤ n → (z : ℕ) × (1 ≤ z) × (z ≤ n) × (is_largest row z ≡ true) × Reaches row y z)
          → (z : ℕ) × (1 ≤ z) × (z ≤ n) × (is_largest row z ≡ true) × Reaches row j z
      go true e rec = (j, low, high, e, (0, refl))
      go false e rec =
          let t = larger j low high e in
          let up = rec t.0 (omega (arith, t.1)) (omega (arith, t.1)) t.2 in
          (up.0, up.1, up.2, up.3, reach-trans row j t.0 up.0 t.3 up.4)

  some-largest : (j : ℕ) → 1 ≤ j → j ≤ n → (z : ℕ) × (1 ≤ z) × (z ≤ n) × (is_largest row z ≡ true) × Reaches row j z
  some-largest j low high = climb n j (omega arith) low high

  module _ (i : ℕ) (low : 1 ≤ i) (high : i ≤ n) where
    -- what is in the cycle of i is one of the row's variables
    pub member-within : (z : ℕ) → has (cycle_of row i) z ≡ true → (1 ≤ z) × (z ≤ n)
    member-within z m =
        let t = member-reach row i z m in
        (rw t.1 at (after-low n row r t.0 i low high), rw t.1 at (after-high n row r t.0 i low high))

    -- and has the same cycle
    pub same-cycle : (z : ℕ) → has (cycle_of row i) z ≡ true → (x : ℕ) → (has (cycle_of row z) x ≡ true) ↔ (has (cycle_of row i) x ≡ true)
    same-cycle z m x =
        let w = member-within z m in
        let to = member-reach row i z m in (
          λ h. reach-member n row r i x low high (reach-trans row i z x to (member-reach row z x h)),
          λ h. reach-member n row r z x w.0 w.1 (reach-trans row z i x (reach-sym n row r i z low high to) (member-reach row i x h)),
        )

    pub largest-of : (z : ℕ) × (has (cycle_of row i) z ≡ true) × (is_largest row z ≡ true) × ((y : ℕ) → has (cycle_of row i) y ≡ true → is_largest row y ≡ true → y ≡ z)
    largest-of =
        let t = some-largest i low high in (
          t.0,
          reach-member n row r i t.0 low high t.4,
          t.3,
          λ y m l.
              let w = member-within y m in
              one-largest y t.0 w.0 w.1 t.1 t.2 l t.3
              (reach-trans row y i t.0 (reach-sym n row r i y low high (member-reach row i y m)) t.4),
        )

    -- ---- where all are left out nothing is moved: every variable is then the largest of its cycle, as is the one that it is sent to

    pub all-out : ((j : ℕ) → 1 ≤ j → j ≤ n → left_out row j ≡ true) → get_or row (i - 1) 0 ≡ 2 * i
    unfolding left_out turns_odd cycle_of oddly turns after sent_to
    all-out out =
        let next : ℕ = sent_to row i in
        let a = sent-low n row r i low high in
        let b = sent-high n row r i low high in
        let top = and_l (is_largest row i) (not (turns_odd row i)) (out i low high) in
        let top-next = and_l (is_largest row next) (not (turns_odd row next)) (out next a b) in
        let on : Reaches row i next = (1, refl) in
        let own : next ≡ i = sym (one-largest i next low high a b top top-next on) in
        let even : oddly (turns row) (cycle_of row i) ≡ false = not-true (turns_odd row i) (and_r (is_largest row i) (not (turns_odd row i)) (out i low high)) in
        let plain : cond (is_negative (get_or row (i - 1) 0)) true false ≡ false = rw (met-end row i next own) at even in
        let sign : is_negative (get_or row (i - 1) 0) ≡ false = sym (cond-id (is_negative (get_or row (i - 1) 0))) ∙ plain in
        omega (arith, own, eqb-false (get_or row (i - 1) 0 % 2) 1 sign)
