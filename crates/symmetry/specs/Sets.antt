-- "Clauses are sets of literals and formulas are sets of clauses" (document 01, "Permutations"): the tests, and what they decide.
-- Assumes nothing.
use Rattle.std.specs.Prelude.{ℕ, Bool, ◌&&◌, ◌↔◌}
use mathlib.Core.List.{List, Memᴰ}
use Rattle.lists.specs.Tests.{all_of, has}

-- every literal of a is one of b
unfoldable pub within : List ℕ → List ℕ → Bool
within a b = all_of (has b) a

-- the clauses a and b have the same literals
unfoldable pub same_set : List ℕ → List ℕ → Bool
same_set a b = within a b && within b a

-- the same as a proposition: membership both ways
abbrev pub SameSet : List ℕ → List ℕ → Type 0
SameSet a b = (x : ℕ) → Memᴰ x a ↔ Memᴰ x b

-- a clause is, as a set, one of a formula's
pub record Among (clause : List ℕ) (formula : List (List ℕ)) : Type 0 where
  pub twin : List ℕ
  pub member : Memᴰ twin formula
  pub same : SameSet clause twin

-- two formulas have the same clauses, as sets
abbrev pub SameFormula : List (List ℕ) → List (List ℕ) → Type 0
SameFormula f g = (clause : List ℕ) → Among clause f ↔ Among clause g
