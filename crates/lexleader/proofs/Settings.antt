-- The settings of the auxiliaries: how many there are, and what each says. Assumes nothing.
use mathlib.Core.Path.{◌≡◌, refl}
use mathlib.Core.Bool.{Bool, false, true, ◌&&◌, and_assoc, and-true}
use mathlib.Core.List.{List, [], ◌∷◌}
use Prim.Native.Nat.{ℕ, zero, suc, ◌+◌, ◌-◌, ◌<◌}
use native.Mathlib.Numerals.{add-one}
use native.Mathlib.Omega.{arith}
use lib.ListN.{length, get_or, take, length-append}
use Rattle.lists.specs.Tests.{all_of}
use Rattle.packed.specs.Order.{value_of}
use Rattle.lexleader.specs.Rows.{Pair, pairs_of}
use Rattle.lexleader.specs.Made.{agrees, settings_after, row_settings, auxiliaries, settings, all_auxiliaries}

module _ (v : ℕ → Bool) where
  pub length-after : (before : Bool) (pairs : List Pair) → length (settings_after v before pairs) ≡ length pairs - 1
  unfolding settings_after
  length-after before [] = refl
  length-after before (q ∷ []) = refl
  length-after before (q ∷ p ∷ pairs) = omega (arith, length-after (before && agrees v q) (p ∷ pairs))

  after-at : (before : Bool) (pairs : List Pair) (j : ℕ) → suc j < length pairs
      → get_or (settings_after v before pairs) j false ≡ (before && all_of (agrees v) (take (suc j) pairs))
  unfolding settings_after all_of
  after-at before [] j h = absurd (omega arith)
  after-at before (q ∷ []) j h = absurd (omega arith)
  after-at before (q ∷ p ∷ pairs) zero h = rw (and-true (agrees v q))
  after-at before (q ∷ p ∷ pairs) (suc j) h = rw (after-at (before && agrees v q) (p ∷ pairs) j (omega arith), and_assoc)

pub setting-at : (row : List ℕ) (a : List Bool) (j : ℕ) → j < auxiliaries row
    → get_or (row_settings row a) j false ≡ all_of (agrees (value_of a)) (take (j + 1) (pairs_of row))
unfolding row_settings auxiliaries
setting-at row a j h = rw add-one (after-at (value_of a) true (pairs_of row) j (omega arith))

pub length-row : (row : List ℕ) (a : List Bool) → length (row_settings row a) ≡ auxiliaries row
unfolding row_settings auxiliaries
length-row row a = length-after (value_of a) true (pairs_of row)

pub length-settings : (rows : List (List ℕ)) (a : List Bool) → length (settings rows a) ≡ all_auxiliaries rows
unfolding settings all_auxiliaries
length-settings [] a = refl
length-settings (row ∷ rows) a = rw (length-append (row_settings row a) (settings rows a), length-row row a, length-settings rows a)
