-- Worked examples: each holds by computing both sides. Assumes nothing.
use mathlib.Core.Path.{◌≡◌, refl}
use mathlib.Core.Bool.{true, false}
use mathlib.Core.List.{[], ◌∷◌}
use Prim.Native.Nat.{◌+◌, ◌*◌, ◌^◌}
use Rattle.packed.specs.Words.{bit_in, bit_at, bits_of, binary, word_count, words_of, spare_bits, is_assignment}
use Rattle.packed.specs.Order.{difference_from, first_difference, less, all_bits}
use Rattle.lists.specs.Tests.{all_of}
use Rattle.lists.specs.Tables.{table}

-- variable 1 is the highest bit of the first word
bits-of-three : bits_of 3 ((5 * 2 ^ 61) ∷ []) ≡ true ∷ false ∷ true ∷ []
unfolding bits_of table bit_at bit_in
bits-of-three = refl

words-of-three : words_of (true ∷ false ∷ true ∷ []) ≡ (5 * 2 ^ 61) ∷ []
unfolding words_of table binary word_count
words-of-three = refl

right-form : is_assignment 3 ((5 * 2 ^ 61) ∷ []) ≡ true
unfolding is_assignment word_count spare_bits all_of bits_of table bit_at bit_in
right-form = refl

-- a spare bit is set
spare-bit : is_assignment 3 ((5 * 2 ^ 61 + 1) ∷ []) ≡ false
unfolding is_assignment word_count spare_bits all_of bits_of table bit_at bit_in
spare-bit = refl

-- a word too many
too_long : is_assignment 3 ((5 * 2 ^ 61) ∷ 0 ∷ []) ≡ false
unfolding is_assignment word_count
too_long = refl

-- they first differ at variable 2, where the first has 0
second-variable : first_difference (true ∷ false ∷ true ∷ []) (true ∷ true ∷ false ∷ []) ≡ 2
unfolding difference_from
second-variable = refl

-- the lowest bit of the second word is variable 128
last-variable : first_difference (all_bits (5 ∷ 8 ∷ [])) (all_bits (5 ∷ 9 ∷ [])) ≡ 128
unfolding difference_from bits_of table bit_at bit_in
last-variable = refl

first-is-less : less (true ∷ false ∷ true ∷ []) (true ∷ true ∷ false ∷ []) ≡ true
unfolding less
first-is-less = refl
