-- `nearest_of x y` is the nearest whole number to x / y, and no other is. What carries it: x lies x % y past the multiple of y below it and y - x % y short of the next,
-- and of two numbers whose multiples of y are both at most half of y away from x, one is the next after the other, both are exactly half away, and one is odd. Assumes nothing.
use mathlib.Core.Path.{◌≡◌, sym, subst}
use mathlib.Core.Logic.{◌⊎◌, inl, inr}
use Prim.Native.Nat.{ℕ, ◌+◌, ◌-◌, ◌*◌, ◌/◌, ◌%◌, ◌≤◌, ◌<◌}
use borrow.Author.Tests.{lt-ltb, le-ltb, eq-eqb, ne_eqb}
use native.Mathlib.Nat.{div-add-mod', div-lt_self, mod-le, mod-lt, add-mul, mul-le-mul_right}
use native.Mathlib.Omega.{arith}
use Rattle.lists.proofs.Cases.{lt-or-le}
use Rattle.quality.specs.Rounding.{nearest_of, distance, Nearest}

module _ (x y : ℕ) where
  -- ---- the ways of `nearest_of`

  pub rounds-down : 2 * (x % y) < y → nearest_of x y ≡ x / y
  unfolding nearest_of
  rounds-down h = rw (lt-ltb (2 * (x % y)) y h)

  pub exact-half : 2 * (x % y) ≡ y → nearest_of x y ≡ x / y + x / y % 2
  unfolding nearest_of
  exact-half e = rw (le-ltb (2 * (x % y)) y (omega (arith, e)), eq-eqb (2 * (x % y)) y e)

  pub rounds-up : y < 2 * (x % y) → nearest_of x y ≡ x / y + 1
  unfolding nearest_of
  rounds-up h = rw (le-ltb (2 * (x % y)) y (omega (arith, h)), ne_eqb (2 * (x % y)) y (λ e. omega (arith, h, e)))

  module _ (positive : 0 < y) where
    -- where it may go up, the next number is at most x
    pub room-above : y ≤ 2 * (x % y) → x / y < x
    room-above h = div-lt_self (omega (arith, positive, h, mod-le x y)) (omega (arith, positive, h, mod-lt x positive))

    -- ---- the nearest

    below : nearest_of x y ≡ x / y → 2 * (x % y) ≤ y → (2 * (x % y) ≡ y → x / y % 2 ≡ 0) → Nearest x y (nearest_of x y)
    below e h even = subst (Nearest x y) (sym e) (record { near = omega (arith, h, away); even = λ q. even (omega (arith, away, q)) })
      where
        away : distance x (x / y * y) ≡ x % y
        away = omega (arith, div-add-mod' x y)

    above : nearest_of x y ≡ x / y + 1 → y ≤ 2 * (x % y) → (2 * (x % y) ≡ y → (x / y + 1) % 2 ≡ 0) → Nearest x y (nearest_of x y)
    above e h even = subst (Nearest x y) (sym e) (record { near = omega (arith, h, away); even = λ q. even (omega (arith, h, away, q)) })
      where
        away : distance x ((x / y + 1) * y) ≡ y - x % y
        away = omega (arith, div-add-mod' x y, mod-lt x positive, add-mul (x / y) 1 y)

    pub is-nearest : Nearest x y (nearest_of x y)
    is-nearest = by (lt-or-le (2 * (x % y)) y) (lt-or-le y (2 * (x % y))) (lt-or-le 0 (x / y % 2))
      where
        by : (2 * (x % y) < y) ⊎ (y ≤ 2 * (x % y)) → (y < 2 * (x % y)) ⊎ (2 * (x % y) ≤ y) → (0 < x / y % 2) ⊎ (x / y % 2 ≤ 0) → Nearest x y (nearest_of x y)
        by (inl h) more odd = below (rounds-down h) (omega (arith, h)) (λ q. omega (arith, h, q))
        by (inr h) (inl k) odd = above (rounds-up k) h (λ q. omega (arith, k, q))
        by (inr h) (inr k) (inl odd) = above (omega (arith, exact-half (omega (arith, h, k)), odd)) h (λ q. omega (arith, odd))
        by (inr h) (inr k) (inr even) = below (omega (arith, exact-half (omega (arith, h, k)), even)) k (λ q. omega (arith, even))

    -- the greater of two would be 1 more, both exactly half of y away, and so both even
    not-two : {f g : ℕ} → Nearest x y f → Nearest x y g → f < g → ⊥
    not-two {f} {g} n m h = by (lt-or-le (f + 1) g)
      where
        by : (f + 1 < g) ⊎ (g ≤ f + 1) → ⊥
        by (inl k) = omega (arith, positive, n.near, m.near, mul-le-mul_right y k, add-mul f 2 y)
        by (inr k) = omega (arith, n.even (omega (arith, n.near, m.near, apart)), m.even (omega (arith, n.near, m.near, apart)))
          where
            apart : g * y ≡ f * y + y
            apart = omega (arith, mul-le-mul_right y h, mul-le-mul_right y k, add-mul f 1 y)

    pub only-nearest : (f : ℕ) → Nearest x y f → f ≡ nearest_of x y
    only-nearest f n = by (lt-or-le f (nearest_of x y)) (lt-or-le (nearest_of x y) f)
      where
        by : (f < nearest_of x y) ⊎ (nearest_of x y ≤ f) → (nearest_of x y < f) ⊎ (f ≤ nearest_of x y) → f ≡ nearest_of x y
        by (inl h) more = absurd (not-two n is-nearest h)
        by (inr h) (inl k) = absurd (not-two is-nearest n k)
        by (inr h) (inr k) = omega (arith, h, k)

    -- what is nearest to a quotient of at most c is at most c
    pub nearest-at-most : {c f : ℕ} → x ≤ c * y → Nearest x y f → f ≤ c
    nearest-at-most {c} {f} h n = by (lt-or-le c f)
      where
        by : (c < f) ⊎ (f ≤ c) → f ≤ c
        by (inl k) = absurd (omega (arith, positive, h, n.near, mul-le-mul_right y k, add-mul c 1 y))
        by (inr k) = k
