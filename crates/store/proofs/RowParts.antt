-- Row r of a store, lent as a part of the images. Assumes nothing.
use mathlib.Core.Path.{◌≡◌}
use mathlib.Core.Bool.{true}
use mathlib.Core.List.{List}
use Prim.Native.Nat.{ℕ, ◌+◌, ◌*◌, ◌≤◌, ◌<◌}
use lib.ListN.{length}
use Rattle.store.specs.Stores.{is_row, row_at, FormedRows}
use Rattle.store.proofs.RowLaws.{row_room, row-size, rows_at}

module _ {n k : ℕ} {images : List ℕ} (f : FormedRows n k images) (r : ℕ) (h : r < k) where
  pub part_room : r * n + n ≤ length images
  part_room = row_room n k images f.fits r h

  module _ (row : List ℕ) (is : row ≡ row_at n r images) where
    pub part-size : length row ≡ n
    part-size = rw is (row-size n k images f.fits r h)

    pub part-row : is_row (length row) row ≡ true
    part-row = rw (part-size, is) (rows_at n k images f.good r h)
