-- Comparing an assignment A with A moved along a row's pairs: a variable x and its image y, as codes (documents 01 and 02, CR 2). `value` gives each
-- literal's value under A. Assumes nothing.
use Rattle.std.specs.Prelude.{◌≡◌, ℕ, Bool, false, not, cond}
use Rattle.std.specs.Bool.{beq}
use mathlib.Core.List.{List, [], ◌∷◌, Memᴰ}
use Rattle.store.specs.Literals.{variable_of}
use Rattle.lexleader.specs.Rows.{Pair}

-- A moved has at x the value of y, so A and A moved differ at x where x and y do
unfoldable pub decides : (ℕ → Bool) → Pair → Bool
decides value q = not (beq (value q.x) (value q.y))

-- "the variable that decided: the least moved one at which A and A moved differ, or 0 where none does"
unfoldable pub deciding : (ℕ → Bool) → List Pair → ℕ
deciding value [] = 0
deciding value (q ∷ pairs) = cond (decides value q) (variable_of q.x) (deciding value pairs)

-- A moved is smaller: A has 1 at the variable that decided, so A moved has 0 there
unfoldable pub lowers_along : (ℕ → Bool) → List Pair → Bool
lowers_along value [] = false
lowers_along value (q ∷ pairs) = cond (decides value q) (value q.x) (lowers_along value pairs)

-- the variables of the pairs and their images have the same values by both, and nothing is said of other literals
abbrev pub SameAlong : List Pair → (ℕ → Bool) → (ℕ → Bool) → Type 0
SameAlong pairs value other = (q : Pair) → Memᴰ q pairs → (value q.x ≡ other q.x) × (value q.y ≡ other q.y)
