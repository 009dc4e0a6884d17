-- The two lines of an offer (document 01, "Permutations"): "a line of names (distinct variables), then a line of values in that order", and where
-- each has its first fault (7 to 10). Assumes nothing.
use Rattle.std.specs.Prelude.{ℕ, Bool, cond, not, ◌&&◌, List, [], ◌∷◌, map, length, ltb, Option, Some, None}
use Rattle.lists.specs.Tests.{has}
use Rattle.dimacs.specs.Words.{Piece, words_at}
use Rattle.dimacs.specs.Numbers.{numeral_of}
use Rattle.store.specs.Literals.{variable_of, is_negative, is_literal}
use Rattle.store.specs.Numerals.{is_numeral, code_in}

-- 7 and 9: "a word that is no number"
unfoldable pub not_number : List Piece → Option ℕ
not_number [] = None
not_number (w ∷ words) = cond (is_numeral (numeral_of w.bytes)) (not_number words) (Some w.place)

-- a name is one of 1..n, and never signed: "a value may now be -i" (document 02, CR 6), and a name not
unfoldable pub is_name : ℕ → ℕ → Bool
is_name n code = is_literal n code && not (is_negative code)

-- 8: "a name outside 1..n or repeated"; `seen` are the names before
unfoldable pub bad_name_after : ℕ → List ℕ → List Piece → Option ℕ
bad_name_after n seen [] = None
bad_name_after n seen (w ∷ words) =
    cond (is_name n (code_in w) && not (has seen (variable_of (code_in w))))
    (bad_name_after n (variable_of (code_in w) ∷ seen) words)
    (Some w.place)

-- "or no name (place: length)"
unfoldable pub bad_name : ℕ → ℕ → List Piece → Option ℕ
bad_name n end [] = Some end
bad_name n end (w ∷ words) = bad_name_after n [] (w ∷ words)

-- 10: "a value that isn't a name or is repeated, or too few (place: length)", whatever its sign: "its size must be a name not yet used, by the old rule 10"
-- (CR 6); `used` are the sizes of the values before
unfoldable pub bad_value_after : List ℕ → ℕ → List ℕ → List Piece → Option ℕ
bad_value_after names end used [] = cond (ltb (length used) (length names)) (Some end) None
bad_value_after names end used (w ∷ words) =
    cond (has names (variable_of (code_in w)) && not (has used (variable_of (code_in w))))
    (bad_value_after names end (variable_of (code_in w) ∷ used) words)
    (Some w.place)

-- the names on a line, as variables, and the values on a line, as codes
unfoldable pub names_on : List ℕ → List ℕ
names_on line = map (λ w. variable_of (code_in w)) (words_at line 0)

unfoldable pub values_on : List ℕ → List ℕ
values_on line = map code_in (words_at line 0)
