-- What filling in writes (document 01, "Assignments, filling in and descent"). Assumes nothing.
use Rattle.std.specs.Prelude.{ℕ, ◌+◌, Bool, cond, List, [], ◌∷◌}
use Rattle.packed.specs.Words.{bits_of, words_of}
use Rattle.lexleader.specs.Rows.{Pair}
use Rattle.lexleader.specs.Made.{agrees, filled_in}

-- how many pairs agree before the first that does not
unfoldable pub agreeing : (ℕ → Bool) → List Pair → ℕ
agreeing v [] = 0
agreeing v (q ∷ pairs) = cond (agrees v q) (1 + agreeing v pairs) 0

-- the words that filling in writes
unfoldable pub filled_words : ℕ → List (List ℕ) → List ℕ → List ℕ
filled_words n rows words = words_of (filled_in rows (bits_of n words))
