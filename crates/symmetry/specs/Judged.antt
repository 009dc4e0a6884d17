-- "Clauses that are always true" (document 02, CR 7): a clause that has i together with -i forbids nothing, "so from now on offers are judged without it". Assumes nothing.
use Rattle.std.specs.Prelude.{ℕ, Bool, cond, List, [], ◌∷◌}
use Rattle.lists.specs.Tests.{any_of, has}
use Rattle.store.specs.Literals.{opposite_of}

-- "a contradictory pair of literals": some literal of the clause stands in it together with its opposite
unfoldable pub has_opposites : List ℕ → Bool
has_opposites clause = any_of (λ code. has clause (opposite_of code)) clause

-- "the set of clauses without a contradictory pair of literals"
unfoldable pub judged : List (List ℕ) → List (List ℕ)
judged [] = []
judged (clause ∷ formula) = cond (has_opposites clause) (judged formula) (clause ∷ judged formula)
