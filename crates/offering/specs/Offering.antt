-- An offer to a store that is open, well formed and not full (document 01, "Permutations", refusals 7 to 11 and 23; 31 by document 02, CR 8). Assumes nothing.
use Rattle.std.specs.Prelude.{ℕ, ◌+◌, ◌*◌, cond, List, length, eqb, leb, Result, Ok, Err}
use Rattle.store.specs.Stores.{Store, plain_of, appended}
use Rattle.store.specs.Identity.{moves_nothing}
use Rattle.store.specs.declared.refusal.Refusal.{Refusal}
use Rattle.permutation.specs.Stated.{stated_by, row_stated}
use Rattle.symmetry.specs.Symmetry.{first_missing}

-- the row that two lines state for a store
abbrev pub row_for : Store → List ℕ → List ℕ → List ℕ
row_for s names values = row_stated s.counts.variables names values

-- how many images the store holds with one row more
abbrev pub images_needed : Store → ℕ
images_needed s = (s.counts.rows + 1) * s.counts.variables

-- 23: "an output slice too short (place: the length needed), tried last"
unfoldable pub if_room : Store → Result (Unit {0}) Refusal
if_room s = cond (leb (images_needed s) (length s.images)) (Ok tt) (Err (Refusal.TooShort (images_needed s)))

-- 11: "no symmetry; the number, from 1, of the first clause whose image is missing", 0 where none is; or what comes after
unfoldable pub if_symmetry : ℕ → Result (Unit {0}) Refusal → Result (Unit {0}) Refusal
if_symmetry missing next = cond (eqb missing 0) next (Err (Refusal.NoSymmetry missing))

-- 31: "where every value equals its name, after 10 and before 11" (document 02, CR 8), so that the row moves nothing
unfoldable pub if_moving : List ℕ → Result (Unit {0}) Refusal → Result (Unit {0}) Refusal
if_moving row next = cond (moves_nothing row) (Err Refusal.MovesNothing) next

-- 7 to 10
abbrev pub if_stated : Result (Unit {0}) Refusal → Result (Unit {0}) Refusal → Result (Unit {0}) Refusal
if_stated (Ok _) next = next
if_stated (Err r) next = Err r

-- "An offer tries 7, 8, 9, 10, 11 in that order", with 31 before 11 and 23 last
unfoldable pub offered_by : Store → List ℕ → List ℕ → Result (Unit {0}) Refusal
offered_by s names values =
    let row = row_for s names values in
    if_stated (stated_by s.counts.variables names values)
    (if_moving row
    (if_symmetry (first_missing row (plain_of s))
    (if_room s)))

-- the images afterwards: the rows held, the new row, and what was past it; as they were where the offer is refused
abbrev pub images_after : Result (Unit {0}) Refusal → Store → List ℕ → List ℕ
images_after (Ok _) s row = appended s.counts.variables s.counts.rows row s.images
images_after (Err r) s row = s.images
