-- Document 01's starred cases of filling in, as words, by computation on the definitions. Assumes nothing.
use mathlib.Core.Path.{◌≡◌, refl}
use mathlib.Core.List.{List, [], ◌∷◌}
use Prim.Native.Nat.{ℕ, ◌*◌, ◌^◌}
use Rattle.lists.specs.Tests.{all_of}
use Rattle.lists.specs.Tables.{table}
use Rattle.packed.specs.Words.{bit_in, bit_at, bits_of, binary, word_count, words_of}
use Rattle.cycles.specs.Cycles.{sent_to, turns, met_from, cycle_of, is_largest, oddly, turns_odd, left_out}
use Rattle.lexleader.specs.Models.{literal_value}
use Rattle.lexleader.specs.Rows.{pairs_but, pairs_of}
use Rattle.lexleader.specs.Made.{agrees, settings_after, row_settings, settings, filled_in}
use Rattle.filling.specs.Written.{filled_words}

-- the row that exchanges 1 and 3, of which one x is left: it has no auxiliary
abbrev exchanged : List (List ℕ)
exchanged = (6 ∷ 4 ∷ 2 ∷ []) ∷ []

-- 101 and 011 fill in as themselves
filled-agreeing : filled_words 3 exchanged (5 * 2 ^ 61 ∷ []) ≡ 5 * 2 ^ 61 ∷ []
unfolding filled_words words_of binary word_count bits_of table bit_at bit_in filled_in settings row_settings settings_after pairs_of pairs_but left_out is_largest turns_odd cycle_of met_from sent_to turns oddly all_of
filled-agreeing = refl

filled-lower : filled_words 3 exchanged (3 * 2 ^ 61 ∷ []) ≡ 3 * 2 ^ 61 ∷ []
unfolding filled_words words_of binary word_count bits_of table bit_at bit_in filled_in settings row_settings settings_after pairs_of pairs_but left_out is_largest turns_odd cycle_of met_from sent_to turns oddly all_of
filled-lower = refl

-- the row 1 to 2 to 3 to 1 has x 1 and 2, and one auxiliary, variable 4: 110 fills in as 1101, since 1 has the value of its image, and 100 as 1000
abbrev round : List (List ℕ)
round = (4 ∷ 6 ∷ 2 ∷ []) ∷ []

filled-alike : filled_words 3 round (6 * 2 ^ 61 ∷ []) ≡ 13 * 2 ^ 60 ∷ []
unfolding filled_words words_of binary word_count bits_of table bit_at bit_in filled_in settings row_settings settings_after agrees literal_value pairs_of pairs_but left_out is_largest turns_odd cycle_of met_from sent_to turns oddly all_of
filled-alike = refl

filled_apart : filled_words 3 round (4 * 2 ^ 61 ∷ []) ≡ 8 * 2 ^ 60 ∷ []
unfolding filled_words words_of binary word_count bits_of table bit_at bit_in filled_in settings row_settings settings_after agrees literal_value pairs_of pairs_but left_out is_largest turns_odd cycle_of met_from sent_to turns oddly all_of
filled_apart = refl
