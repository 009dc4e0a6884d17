-- Checking an assignment (document 01, "Assignments, filling in and descent"): "The checking call answers yes, or the first clause of the made formula that
-- an assignment of 1..N makes false." Assumes nothing.
use Rattle.std.specs.Prelude.{ℕ, ◌+◌, Bool, cond, List, [], ◌∷◌, Option, Some, None}
use Rattle.packed.specs.Words.{bits_of}
use Rattle.packed.specs.Order.{value_of}
use Rattle.store.specs.Stores.{Store}
use Rattle.lexleader.specs.Models.{clause_holds}
use Rattle.lexleader.specs.Store.{made_of, variables_of}

-- every clause is true, or the number of the first that is false
pub data Verdict : Type 0 where
  yes : Verdict
  false_at : ℕ → Verdict

-- the verdict on these clauses, the first of which has the number q
unfoldable pub false_from : ℕ → (ℕ → Bool) → List (List ℕ) → Verdict
false_from q v [] = yes
false_from q v (clause ∷ clauses) = cond (clause_holds v clause) (false_from (q + 1) v clauses) (false_at q)

-- what the code answers: the first false clause, where there is one
abbrev pub verdict_of : Option ℕ → Verdict
verdict_of None = yes
verdict_of (Some clause) = false_at clause

-- the verdict on the made formula's clauses, numbered from 1, where words hold an assignment of 1..N
unfoldable pub first_false : Store → List ℕ → Verdict
first_false s words = false_from 1 (value_of (bits_of (variables_of s) words)) (made_of s)
