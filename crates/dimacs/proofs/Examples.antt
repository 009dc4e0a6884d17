-- Document 01's words and numbers, by computation on the definitions. Assumes nothing.
use mathlib.Core.Path.{◌≡◌, refl}
use mathlib.Core.Bool.{true, false}
use mathlib.Core.List.{[], ◌∷◌, map}
use Rattle.lists.specs.Tests.{all_of}
use Rattle.dimacs.specs.Words.{is_blank, run, words_from, words_at}
use Rattle.dimacs.specs.Lines.{lines_from, lines_at}
use Rattle.dimacs.specs.Numbers.{Numeral, is_digit, decimal_from, digits_of, size_of, numeral_of, reading_at}
use Rattle.std.proofs.Common.{Ok}

-- the empty word, `-`, `-0`, `00`, `01`, `+1` and `1000000`
no-numbers :
    map numeral_of ([] ∷ (45 ∷ []) ∷ (45 ∷ 48 ∷ []) ∷ (48 ∷ 48 ∷ []) ∷ (48 ∷ 49 ∷ []) ∷ (43 ∷ 49 ∷ []) ∷ (49 ∷ 48 ∷ 48 ∷ 48 ∷ 48 ∷ 48 ∷ 48 ∷ []) ∷ [])
    ≡ Numeral.Not ∷ Numeral.Not ∷ Numeral.Not ∷ Numeral.Not ∷ Numeral.Not ∷ Numeral.Not ∷ Numeral.Not ∷ []
unfolding is_digit decimal_from digits_of size_of numeral_of all_of
no-numbers = refl

-- `0`, `-7` and `999999`
numbers :
    map numeral_of ((48 ∷ []) ∷ (45 ∷ 55 ∷ []) ∷ (57 ∷ 57 ∷ 57 ∷ 57 ∷ 57 ∷ 57 ∷ []) ∷ [])
    ≡ Numeral.Is (record { negative = false; size = 0 })
    ∷ Numeral.Is (record { negative = true; size = 7 })
    ∷ Numeral.Is (record { negative = false; size = 999999 })
    ∷ []
unfolding is_digit decimal_from digits_of size_of numeral_of all_of
numbers = refl

-- a carriage return, a NUL and bytes over 127 belong to words
words : words_at (49 ∷ 13 ∷ 32 ∷ 0 ∷ 255 ∷ 10 ∷ []) 0 ≡ record { place = 0; bytes = 49 ∷ 13 ∷ [] } ∷ record { place = 3; bytes = 0 ∷ 255 ∷ [] } ∷ []
unfolding is_blank run words_from
words = refl

-- a last line feed starts no further line; two make an empty one
lines : lines_at (97 ∷ 10 ∷ 10 ∷ []) 0 ≡ record { place = 0; bytes = 97 ∷ [] } ∷ record { place = 2; bytes = [] } ∷ []
unfolding run lines_from
lines = refl

-- ` -3 ` read at 1
reads : reading_at (32 ∷ 45 ∷ 51 ∷ 32 ∷ []) 1 ≡ Ok (record { negative = true; size = 3 }, record { at = 3 })
unfolding is_blank run is_digit decimal_from digits_of size_of numeral_of reading_at all_of
reads = refl
