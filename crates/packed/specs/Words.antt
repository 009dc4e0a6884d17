-- Assignments as 64-bit words (document 01, "Assignments, filling in and descent"): "variable 1 is the highest bit of the first word, 1 is true,
-- spare low bits are 0, and the count of words is just enough". Everywhere else an assignment is a list of Bool, variable i at index i - 1.
-- Assumes nothing.
use Rattle.std.specs.Prelude.{ℕ, zero, suc, ◌+◌, ◌-◌, ◌*◌, ◌/◌, ◌%◌, ◌^◌, Bool, false, not, cond, ◌&&◌, List, length, get_or, drop, eqb}
use Rattle.lists.specs.Tests.{all_of}
use Rattle.lists.specs.Tables.{table}

-- the most words that a comparison takes: "519 words (N is at most 33,216)"
abbrev pub max_words : ℕ
max_words = 519

-- the bit of a word at place p, counted from the highest of 64
unfoldable pub bit_in : ℕ → ℕ → Bool
bit_in w p = eqb (w / 2 ^ (63 - p) % 2) 1

-- the bit at place j of a list of words
unfoldable pub bit_at : List ℕ → ℕ → Bool
bit_at ws j = bit_in (get_or ws (j / 64) 0) (j % 64)

-- the values of the variables 1..n
unfoldable pub bits_of : ℕ → List ℕ → List Bool
bits_of n ws = table n (bit_at ws)

-- the number whose k binary digits, the highest first, are f 0, .., f (k - 1)
unfoldable pub binary : ℕ → (ℕ → Bool) → ℕ
binary zero f = 0
binary (suc k) f = binary k f * 2 + cond (f k) 1 0

-- how many words are just enough for n variables
unfoldable pub word_count : ℕ → ℕ
word_count n = (n + 63) / 64

-- the words of a list of values: just enough, the spare bits 0
unfoldable pub words_of : List Bool → List ℕ
words_of bs = table (word_count (length bs)) (λ j. binary 64 (λ p. get_or bs (j * 64 + p) false))

-- the bits past those of the variables 1..n
unfoldable pub spare_bits : ℕ → List ℕ → List Bool
spare_bits n ws = drop n (bits_of (64 * length ws) ws)

-- the words are an assignment of 1..n in the right form: the opposite of refusal 12, "of the wrong length or with a spare bit set"
unfoldable pub is_assignment : ℕ → List ℕ → Bool
is_assignment n ws = eqb (length ws) (word_count n) && all_of not (spare_bits n ws)
