-- Kept models and chains of moves (document 01; kept and carried are its terms). Assumes nothing.
use Rattle.std.specs.Prelude.{◌≡◌, ℕ, Bool, true, false}
use mathlib.Core.List.{List, ◌++◌, Memᴰ}
use Rattle.lists.specs.Tests.{all_of}
use Rattle.store.specs.Literals.{is_literal}
use Rattle.store.specs.Stores.{is_row}
use Rattle.symmetry.specs.Symmetry.{IsSymmetry}
use Rattle.lexleader.specs.Models.{Model}
use Rattle.lexleader.specs.Rows.{moved, lowers}
use Rattle.lexleader.specs.Made.{made, made_variables}

-- the setting t of the auxiliaries makes a model of the made formula of a
abbrev pub Completes : ℕ → List (List ℕ) → List (List ℕ) → List Bool → List Bool → Type 0
Completes n formula rows a t = Model (made_variables n rows) (made n formula rows) (a ++ t)

-- "A plain model is kept when some setting of the auxiliaries, variables n+1 to N, makes it a model of the made formula."
pub record Kept (n : ℕ) (formula rows : List (List ℕ)) (a : List Bool) : Type 0 where
  pub plain : Model n formula a
  pub setting : List Bool
  pub completes : Completes n formula rows a setting

-- no row makes a smaller
abbrev pub Least : List (List ℕ) → List Bool → Type 0
Least rows a = (row : List ℕ) → Memᴰ row rows → lowers row a ≡ false

-- b is reached from a "by accepted permutations, one after another, as often as needed or not at all"
pub data Carried (rows : List (List ℕ)) : List Bool → List Bool → Type 0 where
  stay : {a : List Bool} → Carried rows a a
  move : {a b : List Bool} (row : List ℕ) → Memᴰ row rows → Carried rows (moved row a) b → Carried rows a b

-- a formula over the variables 1..n, and rows over them that are symmetries of it
pub record Symmetric (n : ℕ) (formula rows : List (List ℕ)) : Type 0 where
  pub literals : all_of (all_of (is_literal n)) formula ≡ true
  pub permutations : all_of (is_row n) rows ≡ true
  pub symmetries : (row : List ℕ) → Memᴰ row rows → IsSymmetry row formula
