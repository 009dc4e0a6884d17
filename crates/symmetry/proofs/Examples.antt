-- Rows that are symmetries of document 01's (1 2)(2 3), and rows that are not, by computation on the definitions. Assumes nothing.
use mathlib.Core.Path.{◌≡◌, refl}
use mathlib.Core.List.{List, [], ◌∷◌}
use Prim.Native.Nat.{ℕ}
use Rattle.lists.specs.Tests.{all_of, any_of}
use Rattle.symmetry.specs.Sets.{within, same_set}
use Rattle.symmetry.specs.Judged.{has_opposites, judged}
use Rattle.symmetry.specs.Symmetry.{image_of, clause_image, has_image, missing_from, first_missing}

-- document 01's listing, as codes
listing : List (List ℕ)
listing = (2 ∷ 4 ∷ []) ∷ (4 ∷ 6 ∷ []) ∷ []

-- 1 and 3 exchanged
ends-exchanged : first_missing (6 ∷ 4 ∷ 2 ∷ []) listing ≡ 0
unfolding listing image_of clause_image has_opposites judged has_image missing_from within same_set all_of any_of
ends-exchanged = refl

-- 1 and 2 exchanged: the image (1 3) of the second clause is missing
first-exchanged : first_missing (4 ∷ 2 ∷ 6 ∷ []) listing ≡ 2
unfolding listing image_of clause_image has_opposites judged has_image missing_from within same_set all_of any_of
first-exchanged = refl

-- clauses are sets: (2 1)(3 2 3), in another order and with a repeated literal
as-sets : first_missing (6 ∷ 4 ∷ 2 ∷ []) ((4 ∷ 2 ∷ []) ∷ (6 ∷ 4 ∷ 6 ∷ []) ∷ []) ≡ 0
unfolding image_of clause_image has_opposites judged has_image missing_from within same_set all_of any_of
as-sets = refl

-- a clause with a contradictory pair is not judged: (1 -1 2) and the listing, 1 and 3 exchanged, which was refused at clause 1 before CR 7
opposites-passed-over : first_missing (6 ∷ 4 ∷ 2 ∷ []) ((2 ∷ 3 ∷ 4 ∷ []) ∷ listing) ≡ 0
unfolding listing image_of clause_image has_opposites judged has_image missing_from within same_set all_of any_of
opposites-passed-over = refl

-- but it counts: with 1 and 2 exchanged it is clause 3 of the whole formula whose image is missing
numbered-in-all : first_missing (4 ∷ 2 ∷ 6 ∷ []) ((2 ∷ 3 ∷ 4 ∷ []) ∷ listing) ≡ 3
unfolding listing image_of clause_image has_opposites judged has_image missing_from within same_set all_of any_of
numbered-in-all = refl
