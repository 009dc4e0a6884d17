-- Descents on words, by computation on the definitions. Assumes nothing.
use mathlib.Core.Path.{◌≡◌, refl}
use mathlib.Core.List.{List, [], ◌∷◌}
use Prim.Native.Nat.{ℕ, ◌*◌, ◌^◌}
use Rattle.lists.specs.Tables.{table}
use Rattle.packed.specs.Words.{bit_in, bit_at, bits_of, binary, word_count, words_of}
use Rattle.packed.specs.Order.{less}
use Rattle.lexleader.specs.Models.{literal_value}
use Rattle.lexleader.specs.Rows.{moved, lowers}
use Rattle.lexleader.specs.Descent.{step_by, descend_from, descend}
use Rattle.descent.specs.Words.{settled_after, spent_after, answer_of, descended}

-- the row that exchanges 1 and 3
abbrev exchanged : List (List ℕ)
exchanged = (6 ∷ 4 ∷ 2 ∷ []) ∷ []

-- 110 comes to 011, in one move
comes-to : descended 3 1 exchanged ((6 * 2 ^ 61) ∷ []) ≡ (3 * 2 ^ 61) ∷ []
unfolding descended descend_from step_by lowers moved less literal_value bits_of words_of table binary word_count bit_at bit_in
comes-to = refl

one-move : answer_of (descend 1 exchanged (bits_of 3 ((6 * 2 ^ 61) ∷ []))) ≡ settled_after 1
unfolding descend_from step_by lowers moved less literal_value bits_of table bit_at bit_in
one-move = refl

-- with the limit 0 it stays, and is spent
stays : descended 3 0 exchanged ((6 * 2 ^ 61) ∷ []) ≡ (6 * 2 ^ 61) ∷ []
unfolding descended descend_from step_by lowers moved less literal_value bits_of words_of table binary word_count bit_at bit_in
stays = refl

no_move : answer_of (descend 0 exchanged (bits_of 3 ((6 * 2 ^ 61) ∷ []))) ≡ spent_after 0
unfolding descend_from step_by lowers moved less literal_value bits_of table bit_at bit_in
no_move = refl

-- by the rows that exchange 1 and 2, and 2 and 3: the second takes 110 to 101, and then the search begins at the first again, which takes that to 011
first-again : descended 3 5 ((4 ∷ 2 ∷ 6 ∷ []) ∷ (2 ∷ 6 ∷ 4 ∷ []) ∷ []) ((6 * 2 ^ 61) ∷ []) ≡ (3 * 2 ^ 61) ∷ []
unfolding descended descend_from step_by lowers moved less literal_value bits_of words_of table binary word_count bit_at bit_in
first-again = refl

-- the row 2 3 1 leaves 010, which its inverse would take to 001
not-inverse : descended 3 5 ((4 ∷ 6 ∷ 2 ∷ []) ∷ []) ((2 * 2 ^ 61) ∷ []) ≡ (2 * 2 ^ 61) ∷ []
unfolding descended descend_from step_by lowers moved less literal_value bits_of words_of table binary word_count bit_at bit_in
not-inverse = refl
