-- The permutation that two lines state (document 01, "Permutations"): "Name i goes to its value p(i); variables not named stay." Assumes nothing.
use Rattle.std.specs.Prelude.{ℕ, suc, ◌*◌, cond, List, [], ◌∷◌, length, eqb, Option, Result, Some, None, Ok, Err}
use Rattle.lists.specs.Tables.{table}
use Rattle.dimacs.specs.Words.{words_at}
use Rattle.store.specs.declared.refusal.Refusal.{Refusal}
use Rattle.permutation.specs.Lines.{not_number, bad_name, bad_value_after, names_on, values_on}

-- the refusal at a fault, or what comes after where there is none
abbrev pub or_else : Option ℕ → (ℕ → Refusal) → Result (Unit {0}) Refusal → Result (Unit {0}) Refusal
or_else (Some place) refusal next = Err (refusal place)
or_else None refusal next = next

-- "An offer tries 7, 8, 9, 10, 11 in that order, each over its whole line."
unfoldable pub stated_by : ℕ → List ℕ → List ℕ → Result (Unit {0}) Refusal
stated_by n names values =
    or_else (not_number (words_at names 0)) Refusal.NameNotNumber
    (or_else (bad_name n (length names) (words_at names 0)) Refusal.BadName
    (or_else (not_number (words_at values 0)) Refusal.ValueNotNumber
    (or_else (bad_value_after (names_on names) (length values) [] (words_at values 0)) Refusal.BadValue
    (Ok tt))))

-- the image of variable i: the value in the place where i stands among the names, and i itself where it is not named
unfoldable pub image_among : List ℕ → List ℕ → ℕ → ℕ
image_among [] values i = 2 * i
image_among (name ∷ names) [] i = 2 * i
image_among (name ∷ names) (value ∷ values) i = cond (eqb name i) value (image_among names values i)

-- the row of n images: that of variable i at index i - 1; and the row that two lines state
abbrev pub row_of : ℕ → List ℕ → List ℕ → List ℕ
row_of n names values = table n (λ k. image_among names values (suc k))

unfoldable pub row_stated : ℕ → List ℕ → List ℕ → List ℕ
row_stated n names values = row_of n (names_on names) (values_on values)
