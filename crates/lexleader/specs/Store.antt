-- The made formula of a store (document 01, "Made formula"): "the made formula is the one that they give", its rows. Assumes nothing.
use Rattle.std.specs.Prelude.{ℕ, List, length}
use Rattle.store.specs.Stores.{Store, plain_of, held_rows}
use Rattle.lexleader.specs.Made.{made, made_variables}

unfoldable pub made_of : Store → List (List ℕ)
made_of s = made s.counts.variables (plain_of s) (held_rows s)

-- N and M
unfoldable pub variables_of : Store → ℕ
variables_of s = made_variables s.counts.variables (held_rows s)

unfoldable pub clauses_of : Store → ℕ
clauses_of s = length (made_of s)
