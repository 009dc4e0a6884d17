-- The longer form, with which CR 9 (document 02) compares the made formula: "What must be shown is that the kept models are exactly those of the longer form,
-- whatever rows are held." In it all moved variables of a row are its x. The definitions are those of Made.antt and Kept.antt for any choice of the x; with
-- `pairs_of` they are the made formula itself (`completes-iff`, proofs/Completed.antt). Assumes nothing.
use Rattle.std.specs.Prelude.{ℕ, ◌+◌, ◌-◌, Bool, List, [], ◌∷◌, ◌++◌, length}
use Rattle.lexleader.specs.Models.{Model}
use Rattle.lexleader.specs.Rows.{Pair, moved_pairs}
use Rattle.lexleader.specs.Made.{pair_clauses}

-- the rows' clauses, where `pairs` gives the x of a row with their images, and e is the first auxiliary of the first row
unfoldable pub clauses_by : (List ℕ → List Pair) → ℕ → List (List ℕ) → List (List ℕ)
clauses_by pairs e [] = []
clauses_by pairs e (row ∷ rows) = pair_clauses e (pairs row) ++ clauses_by pairs (e + (length (pairs row) - 1)) rows

unfoldable pub auxiliaries_by : (List ℕ → List Pair) → List (List ℕ) → ℕ
auxiliaries_by pairs [] = 0
auxiliaries_by pairs (row ∷ rows) = length (pairs row) - 1 + auxiliaries_by pairs rows

unfoldable pub made_by : (List ℕ → List Pair) → ℕ → List (List ℕ) → List (List ℕ) → List (List ℕ)
made_by pairs n formula rows = formula ++ clauses_by pairs (n + 1) rows

unfoldable pub variables_by : (List ℕ → List Pair) → ℕ → List (List ℕ) → ℕ
variables_by pairs n rows = n + auxiliaries_by pairs rows

-- a plain model is kept when some setting of the auxiliaries makes it a model
pub record KeptBy (pairs : List ℕ → List Pair) (n : ℕ) (formula rows : List (List ℕ)) (a : List Bool) : Type 0 where
  pub plain : Model n formula a
  pub setting : List Bool
  pub completes : Model (variables_by pairs n rows) (made_by pairs n formula rows) (a ++ setting)

-- kept in the longer form: x1 .. xk are all variables that a row moves
abbrev pub KeptLonger : ℕ → List (List ℕ) → List (List ℕ) → List Bool → Type 0
KeptLonger n formula rows a = KeptBy moved_pairs n formula rows a
