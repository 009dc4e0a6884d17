-- The row that moves nothing (document 02, CR 8: "A value line that moves nothing"), and rows that "move something". Assumes nothing.
use Rattle.std.specs.Prelude.{◌≡◌, Bool, true, ◌&&◌, List, [], ◌∷◌, ℕ, suc, ◌+◌, ◌-◌, ◌*◌, ◌≤◌, length, get_or, eqb}
use Rattle.lists.specs.Tables.{table}

-- n variables, each its own image
abbrev pub identity : ℕ → List ℕ
identity n = table n (λ k. 2 * suc k)

-- the images of the variables from i on are these variables
unfoldable pub stays_from : ℕ → List ℕ → Bool
stays_from i [] = true
stays_from i (image ∷ row) = eqb image (2 * i) && stays_from (i + 1) row

abbrev pub moves_nothing : List ℕ → Bool
moves_nothing row = stays_from 1 row

-- a variable whose image is another literal
pub record MovesSomething (row : List ℕ) : Type 0 where
  pub variable : ℕ
  pub low : 1 ≤ variable
  pub high : variable ≤ length row
  pub moved : get_or row (variable - 1) 0 ≡ 2 * variable → ⊥
