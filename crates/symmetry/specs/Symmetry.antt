-- Images and symmetries (document 01, "Permutations"): "A clause's image replaces each variable i by p(i) and keeps signs. .. p is a symmetry when
-- the set of images equals the set of clauses." Where p(i) has a sign too, "the image of a literal takes its sign from both" (document 02, CR 6). Assumes nothing.
use Rattle.std.specs.Prelude.{ℕ, zero, suc, Option, Some, None, ◌+◌, ◌-◌, Bool, cond, ◌||◌, List, [], ◌∷◌, map, get_or}
use Rattle.lists.specs.Tests.{any_of}
use Rattle.store.specs.Literals.{variable_of, is_negative, opposite_of}
use Rattle.symmetry.specs.Sets.{same_set, SameFormula}
use Rattle.symmetry.specs.Judged.{has_opposites, judged}

-- the image of a literal: that of its variable, turned where the literal is negative
unfoldable pub image_of : List ℕ → ℕ → ℕ
image_of row code = cond (is_negative code) (opposite_of (get_or row (variable_of code - 1) 0)) (get_or row (variable_of code - 1) 0)

unfoldable pub clause_image : List ℕ → List ℕ → List ℕ
clause_image row clause = map (image_of row) clause

-- the row maps these clauses to themselves: the set of images equals the set of clauses
abbrev pub MapsToItself : List ℕ → List (List ℕ) → Type 0
MapsToItself row clauses = SameFormula (map (clause_image row) clauses) clauses

-- "A symmetry .. is one that maps the set of clauses without a contradictory pair of literals to itself" (document 02, CR 7)
abbrev pub IsSymmetry : List ℕ → List (List ℕ) → Type 0
IsSymmetry row formula = MapsToItself row (judged formula)

-- the image of a clause is, as a set, one of these clauses
unfoldable pub has_image : List ℕ → List (List ℕ) → List ℕ → Bool
has_image row clauses clause = any_of (same_set (clause_image row clause)) clauses

-- the number, from k on, of the first clause without a contradictory pair whose image is missing from `all`; 0 where none is
unfoldable pub missing_from : List ℕ → List (List ℕ) → ℕ → List (List ℕ) → ℕ
missing_from row all k [] = 0
missing_from row all k (clause ∷ clauses) = cond (has_opposites clause || has_image row all clause) (missing_from row all (k + 1) clauses) k

-- "11 gives the first of these whose image is missing, by its number in the whole formula"
abbrev pub first_missing : List ℕ → List (List ℕ) → ℕ
first_missing row formula = missing_from row (judged formula) 1 formula

-- that number as an answer: none for 0
unfoldable pub number_or_none : ℕ → Option ℕ
number_or_none zero = None
number_or_none (suc k) = Some (suc k)
