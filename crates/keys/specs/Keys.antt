-- The key of a clause (document 02, CR 5): "a 64-bit key for each clause: the wrapping sum of one fixed number for each different literal in it". Assumes nothing.
use Rattle.std.specs.Prelude.{ℕ, ◌+◌, ◌-◌, ◌%◌, ◌^◌, Bool, true, false, cond, ◌&&◌, List, [], ◌∷◌, map, ◌==◌, slice_index}
use Rattle.lists.specs.Tests.{has}
use Rattle.numbers.specs.Numbers.{numbers}

-- the different literals of a clause: each that does not come again
unfoldable pub different : List ℕ → List ℕ
different [] = []
different (code ∷ codes) = cond (has codes code) (different codes) (code ∷ different codes)

unfoldable pub total : List ℕ → ℕ
total [] = 0
total (x ∷ l) = x + total l

-- the number of a literal in a table of those of the codes 2, 3, ..
abbrev pub number_in : List ℕ → ℕ → ℕ
number_in table code = slice_index table (code - 2)

-- the key by a table of numbers: their sum wraps at 64 bits
unfoldable pub key_by : List ℕ → List ℕ → ℕ
key_by table clause = total (map (number_in table) (different clause)) % 2 ^ 64

abbrev pub key_of : List ℕ → ℕ
key_of clause = key_by numbers clause

-- what opening writes: one a clause
abbrev pub keys_of : List (List ℕ) → List ℕ
keys_of formula = map key_of formula

-- the opposite of "A stored key that isn't its clause's sum", and of a slice too short; entries past those of the clauses may be any
unfoldable pub right_keys : List (List ℕ) → List ℕ → Bool
right_keys [] keys = true
right_keys (clause ∷ formula) [] = false
right_keys (clause ∷ formula) (key ∷ keys) = key == key_of clause && right_keys formula keys
