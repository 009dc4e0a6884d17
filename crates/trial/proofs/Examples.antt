-- Trials, by computation on the definitions: what the row that exchanges 1 and 3 does to four assignments, and a row that turns the sign of 1. Assumes nothing.
use mathlib.Core.Path.{◌≡◌, refl}
use mathlib.Core.Bool.{Bool, true, false}
use mathlib.Core.List.{List, [], ◌∷◌}
use Prim.Native.Nat.{ℕ}
use Rattle.packed.specs.Order.{value_of}
use Rattle.lexleader.specs.Models.{literal_value}
use Rattle.lexleader.specs.Rows.{pairs_but, stays, moved_pairs}
use Rattle.lexleader.specs.Deciding.{decides, deciding, lowers_along}

-- yes or no, and the variable
abbrev found : List ℕ → List Bool → Bool × ℕ
found row a = (lowers_along (literal_value (value_of a)) (moved_pairs row), deciding (literal_value (value_of a)) (moved_pairs row))

abbrev exchanged : List ℕ
exchanged = 6 ∷ 4 ∷ 2 ∷ []

-- 110 comes to 011: smaller, by variable 1
smaller : found exchanged (true ∷ true ∷ false ∷ []) ≡ (true, 1)
unfolding lowers_along deciding decides moved_pairs pairs_but stays literal_value
smaller = refl

-- 011 comes to 110: not smaller, by variable 1
larger : found exchanged (false ∷ true ∷ true ∷ []) ≡ (false, 1)
unfolding lowers_along deciding decides moved_pairs pairs_but stays literal_value
larger = refl

-- 101 and 010 stay
same : found exchanged (true ∷ false ∷ true ∷ []) ≡ (false, 0)
unfolding lowers_along deciding decides moved_pairs pairs_but stays literal_value
same = refl

same-again : found exchanged (false ∷ true ∷ false ∷ []) ≡ (false, 0)
unfolding lowers_along deciding decides moved_pairs pairs_but stays literal_value
same-again = refl

-- variable 1 is moved by 1 to -1
turned : found (3 ∷ 4 ∷ []) (true ∷ true ∷ []) ≡ (true, 1)
unfolding lowers_along deciding decides moved_pairs pairs_but stays literal_value
turned = refl
