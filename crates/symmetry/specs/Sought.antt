-- What is looked for among the clauses, by its key and by marks. Assumes nothing.
use Rattle.std.specs.Prelude.{◌≡◌, true, List, ℕ}
use Rattle.lists.specs.Tests.{all_of}
use Rattle.store.specs.Literals.{is_literal}
use Rattle.store.specs.Stores.{max_variables}
use Rattle.keys.specs.Keys.{key_of}
use Rattle.keys.specs.Marks.{Marked}

-- literals, of which it is known that these have a mark and no others have it
pub record Sought (mark : ℕ) (marks image : List ℕ) : Type 0 where
  pub literals : all_of (is_literal max_variables) image ≡ true
  pub marked : Marked mark image marks

-- they have this key
abbrev pub SoughtKey : ℕ → ℕ → List ℕ → Type 0
SoughtKey key mark marks = (image : List ℕ) → Sought mark marks image → key_of image ≡ key
