-- The moved variables of a row: a walk along them, and that comparing along them decides as the order over all variables does. Assumes nothing.
use mathlib.Core.Path.{◌≡◌}
use mathlib.Core.Bool.{Bool, true}
use mathlib.Core.List.{List, ◌∷◌}
use Prim.Native.Nat.{ℕ, ◌+◌, ◌-◌, ◌*◌, ◌<◌}
use native.Mathlib.Omega.{arith}
use borrow.Author.Tests.{eqb-true, eq-eqb, ne_eqb}
use lib.ListN.{length, get_or}
use Rattle.lists.specs.Tests.{all_of}
use Rattle.packed.specs.Order.{value_of, first_difference}
use Rattle.store.specs.Literals.{is_literal}
use Rattle.store.proofs.Formed.{Row}
use Rattle.lexleader.specs.Models.{literal_value}
use Rattle.lexleader.specs.Rows.{moved, lowers, stays, moved_pairs}
use Rattle.lexleader.specs.Clause.{pair_at, but_at}
use Rattle.lexleader.specs.Deciding.{deciding, lowers_along}
use Rattle.lexleader.proofs.Truth.{value-positive}
use Rattle.lexleader.proofs.Pairs.{both}
use Rattle.lexleader.proofs.Walk.{but-start, walk-past, walk_here}
use Rattle.lexleader.proofs.Along.{Idle, along-but, deciding-but, but-within}

pub moved-start : (row : List ℕ) → moved_pairs row ≡ but_at (stays row) 0 row
unfolding moved_pairs
moved-start row = but-start (stays row) row

module _ (row : List ℕ) (i : ℕ) where
  index : i + 1 - 1 ≡ i
  index = omega arith

  stays_at : get_or row i 0 ≡ 2 * (i + 1) → stays row (i + 1) ≡ true
  unfolding stays
  stays_at e = rw (index, eq-eqb (get_or row i 0) (2 * (i + 1)) e)

  pub moved-past : i < length row → get_or row i 0 ≡ 2 * (i + 1) → but_at (stays row) i row ≡ but_at (stays row) (i + 1) row
  moved-past h e = walk-past (stays row) row i h (stays_at e)

  pub moved_here : i < length row → (get_or row i 0 ≡ 2 * (i + 1) → ⊥) → but_at (stays row) i row ≡ pair_at row i ∷ but_at (stays row) (i + 1) row
  unfolding stays
  moved_here h e = walk_here (stays row) row i h (rw (index, ne_eqb (get_or row i 0) (2 * (i + 1)) e))

-- a variable that stays has its own value for its image
stays-idle : (row : List ℕ) (a : List Bool) → Idle (value_of a) (stays row) 1 row
unfolding stays
stays-idle row a j h out before =
    let place : 1 + j - 1 ≡ j = omega arith in
    let image : get_or row j 0 ≡ 2 * (1 + j) = eqb-true (get_or row j 0) (2 * (1 + j)) (rw place at out) in
    rw image (value-positive (value_of a) (1 + j))

module _ (row : List ℕ) (a : List Bool) (size : length a ≡ length row) where
  pub along-moved : lowers_along (literal_value (value_of a)) (moved_pairs row) ≡ lowers row a
  unfolding moved_pairs
  along-moved = along-but (stays row) row a size (stays-idle row a)

  pub deciding-moved : deciding (literal_value (value_of a)) (moved_pairs row) ≡ first_difference a (moved row a)
  unfolding moved_pairs
  deciding-moved = deciding-but (stays row) row a size (stays-idle row a)

pub moved-within : (n : ℕ) (row : List ℕ) → Row n row → all_of (both (is_literal n)) (moved_pairs row) ≡ true
unfolding moved_pairs
moved-within n row r = but-within (stays row) n row r
