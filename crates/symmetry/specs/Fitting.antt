-- What the functions rely on, and every well formed store gives with a row of its variables (proofs/Facts.antt). Assumes nothing.
use Rattle.std.specs.Prelude.{◌≡◌, true, List, ℕ, length}
use Rattle.lists.specs.Tests.{all_of}
use Rattle.store.specs.Literals.{is_literal}
use Rattle.store.specs.Stores.{is_row}
use Rattle.keys.specs.Marks.{Places, sent_to}
use Rattle.symmetry.specs.Symmetry.{image_of}

-- each literal of a formula is of one of a row's variables
abbrev pub FitsRow : List ℕ → List (List ℕ) → Type 0
FitsRow row formula = all_of (all_of (is_literal (length row))) formula ≡ true

-- a row, and a table of the places of the images of its literals
pub record ImagePlaces (row table : List ℕ) : Type 0 where
  pub is-row : is_row (length row) row ≡ true
  pub sends : (code : ℕ) → is_literal (length row) code ≡ true → sent_to table code ≡ image_of row code
  pub places : Places table
