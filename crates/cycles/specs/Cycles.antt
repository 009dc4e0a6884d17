-- The cycles of a row (document 02, CR 9): "Leave out, for each cycle of a row, its largest variable, unless going once round the cycle turns the sign an odd
-- number of times." A row holds literal codes, the image of variable i at index i - 1. Assumes nothing.
use Rattle.std.specs.Prelude.{ℕ, zero, suc, ◌-◌, Bool, false, not, cond, ◌&&◌, List, [], ◌∷◌, length, get_or, eqb, leb}
use Rattle.lists.specs.Tests.{all_of}
use Rattle.store.specs.Literals.{variable_of, is_negative}

-- the variable to which a row sends variable i, whatever the sign
unfoldable pub sent_to : List ℕ → ℕ → ℕ
sent_to row i = variable_of (get_or row (i - 1) 0)

-- the row turns the sign of variable i
unfoldable pub turns : List ℕ → ℕ → Bool
turns row i = is_negative (get_or row (i - 1) 0)

-- the variables from j on, each sent to the next, until i is met; at most `most` of them
unfoldable pub met_from : List ℕ → ℕ → ℕ → ℕ → List ℕ
met_from row i zero j = []
met_from row i (suc most) j = cond (eqb j i) [] (j ∷ met_from row i most (sent_to row j))

-- "once round the cycle" of variable i; in a row of n images i is met again within n steps (`returns`, proofs/Returns.antt)
unfoldable pub cycle_of : List ℕ → ℕ → List ℕ
cycle_of row i = i ∷ met_from row i (length row) (sent_to row i)

-- "its largest variable"
unfoldable pub is_largest : List ℕ → ℕ → Bool
is_largest row i = all_of (λ j. leb j i) (cycle_of row i)

-- an odd number of elements pass the test
unfoldable pub oddly : (ℕ → Bool) → List ℕ → Bool
oddly p [] = false
oddly p (x ∷ l) = cond (p x) (not (oddly p l)) (oddly p l)

-- "going once round the cycle turns the sign an odd number of times"
unfoldable pub turns_odd : List ℕ → ℕ → Bool
turns_odd row i = oddly (turns row) (cycle_of row i)

-- variable i of the row is left out. One that is not moved is a cycle by itself, and is left out by the same rule.
unfoldable pub left_out : List ℕ → ℕ → Bool
left_out row i = is_largest row i && not (turns_odd row i)
