-- What a row does to assignments (document 01): "A moved by p has, at variable i, the value A(p(i)); p carries A to that, and makes A smaller when that
-- is < A." A row holds literal codes, the image of variable i at index i - 1; where that is negative, "A moved takes the negated value" (document 02, CR 6), and "a
-- variable sent to its own negation counts as moved". Assumes nothing.
use Rattle.std.specs.Prelude.{ℕ, ◌+◌, ◌-◌, ◌*◌, Bool, cond, List, [], ◌∷◌, map, get_or, eqb}
use Rattle.packed.specs.Order.{value_of, less}
use Rattle.cycles.specs.Cycles.{left_out}
use Rattle.lexleader.specs.Models.{literal_value}

unfoldable pub moved : List ℕ → List Bool → List Bool
moved row a = map (literal_value (value_of a)) row

-- the row makes a smaller
unfoldable pub lowers : List ℕ → List Bool → Bool
lowers row a = less (moved row a) a

-- a variable x with its image y, both as codes
pub record Pair : Type 0 where
  pub x : ℕ
  pub y : ℕ

-- the variables that a test does not leave out, with their images, of a row whose first image is that of variable i
unfoldable pub pairs_but : (ℕ → Bool) → ℕ → List ℕ → List Pair
pairs_but out i [] = []
pairs_but out i (y ∷ row) = cond (out i) (pairs_but out (i + 1) row) (record { x = 2 * i; y = y } ∷ pairs_but out (i + 1) row)

-- "Leave out, for each cycle of a row, its largest variable, unless going once round the cycle turns the sign an odd number of times. The rest are x1 .. xk"
-- (document 02, CR 9), "with yj = p(xj)"
unfoldable pub pairs_of : List ℕ → List Pair
pairs_of row = pairs_but (left_out row) 1 row

-- variable i is its own image
unfoldable pub stays : List ℕ → ℕ → Bool
stays row i = eqb (get_or row (i - 1) 0) (2 * i)

-- the moved variables and their images, by which an assignment is compared with what the row makes of it (CR 2)
unfoldable pub moved_pairs : List ℕ → List Pair
moved_pairs row = pairs_but (stays row) 1 row
