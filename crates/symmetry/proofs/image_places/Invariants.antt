-- `symmetry::image_places` meets its contract. The invariant: the table is right for the literals below `code`. Assumes nothing.
use Rattle.std.proofs.Common.{◌≡◌, ℕ, ◌<◌, true, List, length}
use Rattle.store.specs.Literals.{is_literal}
use Rattle.keys.specs.Marks.{Places, sent_to}
use Rattle.symmetry.specs.Symmetry.{image_of}
use Rattle.symmetry.proofs.image_places.Given as goal

pub record Filled (row table : List ℕ) (code : ℕ) : Type 0 where
  pub places : Places table
  pub sends : (x : ℕ) → is_literal (length row) x ≡ true → x < code → sent_to table x ≡ image_of row x

abbrev pub invariant-loop-code : goal.invariant-loop-code
invariant-loop-code l = Filled l.images l.places l.code
