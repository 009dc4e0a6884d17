-- The rule before CR 7, kept beside the new one to say what the change keeps (proofs/Theorem.antt `symmetry-still`): "p is a symmetry when the set of images
-- equals the set of clauses" (document 01), with a contradictory pair or without. Assumes nothing.
use Rattle.std.specs.Prelude.{ℕ, List}
use Rattle.symmetry.specs.Symmetry.{MapsToItself}

abbrev pub IsFormerSymmetry : List ℕ → List (List ℕ) → Type 0
IsFormerSymmetry row formula = MapsToItself row formula
