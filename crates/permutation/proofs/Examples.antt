-- Document 01's lines and refusals for n = 3, by computation on the definitions. Assumes nothing.
use mathlib.Core.Path.{◌≡◌, refl}
use mathlib.Core.List.{List, [], ◌∷◌, map}
use Prim.Native.Nat.{ℕ}
use Rattle.std.proofs.Common.{Ok, Err}
use Rattle.lists.specs.Tests.{any_of, all_of}
use Rattle.lists.specs.Tables.{table}
use Rattle.dimacs.specs.Words.{is_blank, run, words_from}
use Rattle.dimacs.specs.Numbers.{is_digit, decimal_from, digits_of, size_of, numeral_of}
use Rattle.store.specs.Literals.{is_literal}
use Rattle.store.specs.declared.refusal.Refusal.{Refusal}
use Rattle.store.specs.Numerals.{code_in}
use Rattle.permutation.specs.Lines.{is_name, not_number, bad_name_after, bad_name, bad_value_after, names_on, values_on}
use Rattle.permutation.specs.Stated.{stated_by, image_among, row_stated}

-- a line of names and a line of values
record Offer : Type 0 where
  names : List ℕ
  values : List ℕ

-- `1 3` with the values `3 1`, `-3 1`, `3`, `3 3`, `3 -3`, `3 3 x` and `-2`; the names `1 1`, `-1`, `4`, `4 x` and two blanks with the value `1`
answers :
    map (λ (o : Offer). stated_by 3 o.names o.values)
    (record { names = 49 ∷ 32 ∷ 51 ∷ []; values = 51 ∷ 32 ∷ 49 ∷ [] }
    ∷ record { names = 49 ∷ 32 ∷ 51 ∷ []; values = 45 ∷ 51 ∷ 32 ∷ 49 ∷ [] }
    ∷ record { names = 49 ∷ 32 ∷ 51 ∷ []; values = 51 ∷ [] }
    ∷ record { names = 49 ∷ 32 ∷ 51 ∷ []; values = 51 ∷ 32 ∷ 51 ∷ [] }
    ∷ record { names = 49 ∷ 32 ∷ 51 ∷ []; values = 51 ∷ 32 ∷ 45 ∷ 51 ∷ [] }
    ∷ record { names = 49 ∷ 32 ∷ 51 ∷ []; values = 51 ∷ 32 ∷ 51 ∷ 32 ∷ 120 ∷ [] }
    ∷ record { names = 49 ∷ 32 ∷ 51 ∷ []; values = 45 ∷ 50 ∷ [] }
    ∷ record { names = 49 ∷ 32 ∷ 49 ∷ []; values = 49 ∷ [] }
    ∷ record { names = 45 ∷ 49 ∷ []; values = 49 ∷ [] }
    ∷ record { names = 52 ∷ []; values = 49 ∷ [] }
    ∷ record { names = 52 ∷ 32 ∷ 120 ∷ []; values = 49 ∷ [] }
    ∷ record { names = 32 ∷ 32 ∷ []; values = 49 ∷ [] }
    ∷ [])
    ≡ (Ok tt)
    ∷ (Ok tt)
    ∷ Err (Refusal.BadValue 1)
    ∷ Err (Refusal.BadValue 2)
    ∷ Err (Refusal.BadValue 2)
    ∷ Err (Refusal.ValueNotNumber 4)
    ∷ Err (Refusal.BadValue 0)
    ∷ Err (Refusal.BadName 2)
    ∷ Err (Refusal.BadName 0)
    ∷ Err (Refusal.BadName 0)
    ∷ Err (Refusal.NameNotNumber 2)
    ∷ Err (Refusal.BadName 2)
    ∷ []
unfolding stated_by not_number bad_name bad_name_after bad_value_after names_on code_in is_name is_literal any_of all_of is_digit decimal_from digits_of size_of numeral_of is_blank run words_from
answers = refl

-- the rows that `1 3` states with `3 1` and with `-3 1`
row : row_stated 3 (49 ∷ 32 ∷ 51 ∷ []) (51 ∷ 32 ∷ 49 ∷ []) ≡ 6 ∷ 4 ∷ 2 ∷ []
unfolding row_stated image_among table names_on values_on code_in all_of is_digit decimal_from digits_of size_of numeral_of is_blank run words_from
row = refl

signed : row_stated 3 (49 ∷ 32 ∷ 51 ∷ []) (45 ∷ 51 ∷ 32 ∷ 49 ∷ []) ≡ 7 ∷ 4 ∷ 2 ∷ []
unfolding row_stated image_among table names_on values_on code_in all_of is_digit decimal_from digits_of size_of numeral_of is_blank run words_from
signed = refl
