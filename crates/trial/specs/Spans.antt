-- What a trial walks and what it reads. Assumes nothing.
use Rattle.std.specs.Prelude.{◌≡◌, ℕ, ◌+◌, ◌-◌, ◌*◌, ◌≤◌, ◌<◌, Bool, true, false, ◌&&◌, ◌||◌, List, [], ◌∷◌, length, get_or, ltb}
use Rattle.lexleader.specs.Rows.{Pair, stays, moved_pairs}
use Rattle.lexleader.specs.Deciding.{decides, deciding, lowers_along}
use Rattle.lexleader.specs.Clause.{but_at, NextBut}
use Rattle.valuation.specs.Tables.{by_code}

-- the moved variables at index i of a row and after it, with their images
abbrev pub moved_at : ℕ → List ℕ → List Pair
moved_at i row = but_at (stays row) i row

-- r is the index of the first moved variable, or the row's length where there is none
abbrev pub FirstMoved : List ℕ → ℕ → Type 0
FirstMoved row r = NextBut (stays row) row 0 r

-- there is a value for each moved variable and for its image, as far as the first that decides; of others there may be any, or none
unfoldable pub placed : List Bool → List Pair → Bool
placed values [] = true
placed values (q ∷ pairs) = (ltb q.x (length values) && ltb q.y (length values)) && (decides (by_code values) q || placed values pairs)

-- the same is found along some pairs as along others: the answer, and the variable
pub record SameFound (value : ℕ → Bool) (pairs rest : List Pair) : Type 0 where
  pub yes : lowers_along value pairs ≡ lowers_along value rest
  pub variable : deciding value pairs ≡ deciding value rest

-- b says whether the variable at index i decides. Where it does, that is what is found from i on; where it does not, the rest decides.
pub record Decides (row : List ℕ) (values : List Bool) (i : ℕ) (b : Bool) : Type 0 where
  pub place : b ≡ true → 2 * (i + 1) < length values
  pub variable : b ≡ true → deciding (by_code values) (moved_at i row) ≡ i + 1
  pub yes : b ≡ true → lowers_along (by_code values) (moved_at i row) ≡ by_code values (2 * (i + 1))
  pub rest : b ≡ false → SameFound (by_code values) (moved_at i row) (moved_at (i + 1) row)
  pub rest-placed : b ≡ false → placed values (moved_at (i + 1) row) ≡ true

-- all moved variables have an index from `first` up to `end`
pub record Covers (row : List ℕ) (first end : ℕ) : Type 0 where
  pub order : first ≤ end
  pub within : end ≤ length row
  pub none_before : moved_pairs row ≡ moved_at first row
  pub none_after : moved_at end row ≡ []

-- the first moved variable has index `first`, the last is the one before `end`
pub record IsSpan (row : List ℕ) (first end : ℕ) : Type 0 where
  pub starts : FirstMoved row first
  pub order : first ≤ end
  pub within : end ≤ length row
  pub last : first < end → get_or row (end - 1) 0 ≡ 2 * end → ⊥
  pub none_after : moved_at end row ≡ []
