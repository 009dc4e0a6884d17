-- Stores that are well formed and stores that are not, by computation on the definitions. Assumes nothing.
use mathlib.Core.Path.{◌≡◌, refl}
use mathlib.Core.Bool.{true, false}
use mathlib.Core.List.{List, [], ◌∷◌, map}
use Prim.Native.Nat.{ℕ}
use Rattle.lists.specs.Tests.{all_of, any_of, distinct}
use Rattle.store.specs.Literals.{is_literal}
use Rattle.store.specs.Stores.{Store, lent, rising, literal_count, rows_of, is_row, demands, is_formed}

-- document 01's listing
listing : (rows : ℕ) (literals ends images : List ℕ) → Store
listing rows literals ends images = lent (record { variables = 3; clauses = 2; rows = rows; is_open = true }) literals ends images

-- with its row `3 2 1`, and with what is past the entries in use; with the row `3 -2 -1`
good :
    map is_formed
    (listing 1 (2 ∷ 4 ∷ 4 ∷ 6 ∷ 9999 ∷ []) (2 ∷ 4 ∷ 1 ∷ []) (6 ∷ 4 ∷ 2 ∷ 7 ∷ [])
    ∷ listing 1 (2 ∷ 4 ∷ 4 ∷ 6 ∷ []) (2 ∷ 4 ∷ []) (6 ∷ 5 ∷ 3 ∷ [])
    ∷ [])
    ≡ true ∷ true ∷ []
unfolding listing is_literal rising literal_count rows_of is_row demands is_formed all_of any_of distinct
good = refl

-- an end that falls; one that passes the literals; a literal beyond n; a literal 0; a row with a repeated image; one with a size repeated with another sign; one
-- with the size 0; one with a size over n; images too short for the rows
bad :
    map is_formed
    (listing 0 (2 ∷ 4 ∷ 4 ∷ 6 ∷ []) (4 ∷ 2 ∷ []) []
    ∷ listing 0 (2 ∷ 4 ∷ 4 ∷ 6 ∷ []) (2 ∷ 5 ∷ []) []
    ∷ listing 0 (2 ∷ 4 ∷ 4 ∷ 8 ∷ []) (2 ∷ 4 ∷ []) []
    ∷ listing 0 (2 ∷ 4 ∷ 4 ∷ 1 ∷ []) (2 ∷ 4 ∷ []) []
    ∷ listing 1 (2 ∷ 4 ∷ 4 ∷ 6 ∷ []) (2 ∷ 4 ∷ []) (6 ∷ 4 ∷ 6 ∷ [])
    ∷ listing 1 (2 ∷ 4 ∷ 4 ∷ 6 ∷ []) (2 ∷ 4 ∷ []) (6 ∷ 4 ∷ 7 ∷ [])
    ∷ listing 1 (2 ∷ 4 ∷ 4 ∷ 6 ∷ []) (2 ∷ 4 ∷ []) (6 ∷ 4 ∷ 1 ∷ [])
    ∷ listing 1 (2 ∷ 4 ∷ 4 ∷ 6 ∷ []) (2 ∷ 4 ∷ []) (6 ∷ 4 ∷ 9 ∷ [])
    ∷ listing 2 (2 ∷ 4 ∷ 4 ∷ 6 ∷ []) (2 ∷ 4 ∷ []) (6 ∷ 4 ∷ 2 ∷ 6 ∷ 4 ∷ [])
    ∷ [])
    ≡ false ∷ false ∷ false ∷ false ∷ false ∷ false ∷ false ∷ false ∷ false ∷ []
unfolding listing is_literal rising literal_count rows_of is_row demands is_formed all_of any_of distinct
bad = refl
