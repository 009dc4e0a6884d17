-- A quotient to the nearest whole number (document 02, CR 4): how it is found, and what makes a number the nearest. Assumes nothing.
use Rattle.std.specs.Prelude.{◌≡◌, cond, ℕ, ◌+◌, ◌-◌, ◌*◌, ◌/◌, ◌%◌, ◌≤◌, eqb, ltb}

-- of a number and the next, "the even one"
abbrev pub even_from : ℕ → ℕ
even_from k = k + k % 2

-- x / y to "the nearest" whole number, "an exact half going to the even one": the remainder is less than half of the divisor, exactly half of it, or more
unfoldable pub nearest_of : ℕ → ℕ → ℕ
nearest_of x y = cond (ltb (2 * (x % y)) y) (x / y) (cond (eqb (2 * (x % y)) y) (even_from (x / y)) (x / y + 1))

-- how far apart two numbers are
abbrev pub distance : ℕ → ℕ → ℕ
distance a b = (a - b) + (b - a)

-- f is the nearest to x / y: twice the distance of f × y from x is at most y, and where it is exactly y, f is even
pub record Nearest (x y f : ℕ) : Type 0 where
  pub near : 2 * distance x (f * y) ≤ y
  pub even : 2 * distance x (f * y) ≡ y → f % 2 ≡ 0
