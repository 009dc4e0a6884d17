-- A table moved by a row, by way of a second table. Assumes nothing.
use Rattle.std.specs.Prelude.{◌≡◌, ℕ, ◌+◌, ◌*◌, ◌≤◌, ◌<◌, Bool, false, List, length, get_or}
use Rattle.lexleader.specs.Rows.{moved}
use Rattle.valuation.specs.Tables.{bits_in, Table}

-- two tables are the same but for the places from `from` up to `to`
pub record SameBut (from to : ℕ) (next values : List Bool) : Type 0 where
  pub size : length values ≡ length next
  pub within : to ≤ length next
  pub order : from ≤ to
  pub below : (k : ℕ) → k < from → get_or values k false ≡ get_or next k false
  pub above : (k : ℕ) → to ≤ k → get_or values k false ≡ get_or next k false

-- `next` is the table of the assignment of `values` moved, and the same but for the variables of the span
pub record MovedSpan (row : List ℕ) (first end : ℕ) (values next : List Bool) : Type 0 where
  pub table : Table (length row) next
  pub bits : bits_in (length row) next ≡ moved row (bits_in (length row) values)
  pub others : SameBut (2 * (first + 1)) (2 * (end + 1)) next values
