-- A walk along a row, past the variables that a test leaves out: what one step finds, and that there are no more pairs than variables. Assumes nothing.
use mathlib.Core.Path.{◌≡◌, refl, sym, ap, ◌∙◌}
use mathlib.Core.Bool.{Bool, true, false, not, cond}
use mathlib.Core.Logic.{◌⊎◌, inl, inr}
use mathlib.Core.List.{List, [], ◌∷◌}
use Prim.Native.Nat.{ℕ, zero, suc, ◌+◌, ◌-◌, ◌*◌, ◌≤◌, ◌<◌}
use native.Mathlib.Nat.{add-zero}
use native.Mathlib.Omega.{arith}
use mir.Val.{bool_byte}
use lib.ListN.{length, drop, drop_of_length-le, length-drop}
use lib.Seq.{drop-drop}
use Rattle.lists.proofs.Cases.{lt-or-le}
use Rattle.lists.proofs.Steps.{drop-step}
use Rattle.cycles.specs.Cycles.{left_out}
use Rattle.lexleader.specs.Rows.{Pair, pairs_but, pairs_of}
use Rattle.lexleader.specs.Clause.{pair_at, but_at, pairs_at, NextPair}

pub but-start : (out : ℕ → Bool) (row : List ℕ) → pairs_but out 1 row ≡ but_at out 0 row
unfolding but_at
but-start out row = refl

pub pairs_start : (row : List ℕ) → pairs_of row ≡ pairs_at 0 row
unfolding pairs_of
pairs_start row = but-start (left_out row) row

module _ (out : ℕ → Bool) (row : List ℕ) (i : ℕ) where
  pub walk-past : i < length row → out (i + 1) ≡ true → but_at out i row ≡ but_at out (i + 1) row
  unfolding but_at pairs_but
  walk-past h e = rw (drop-step row i 0 h, e)

  pub walk_here : i < length row → out (i + 1) ≡ false → but_at out i row ≡ pair_at row i ∷ but_at out (i + 1) row
  unfolding but_at pairs_but
  walk_here h e = rw (drop-step row i 0 h, e)

  -- the variable at i is one pair more, or none
  pub walk-counts : (b : Bool) → i < length row → out (i + 1) ≡ b
      → (length (but_at out i row) ≡ bool_byte (not b) + length (but_at out (i + 1) row)) × (bool_byte (not b) ≤ 1)
  walk-counts true h e = (omega (arith, ap length (walk-past h e)), omega arith)
  walk-counts false h e = (omega (arith, ap length (walk_here h e)), omega arith)

  pub walk_end : length row ≤ i → but_at out i row ≡ []
  unfolding but_at pairs_but
  walk_end h = rw (drop_of_length-le row {i = i} h)

-- there are as many pairs less after some variables as these are not left out, so no more than these are
module _ (out : ℕ → Bool) (row : List ℕ) where
  next-pairs : (i : ℕ) → (length (but_at out (i + 1) row) ≤ length (but_at out i row)) × (length (but_at out i row) ≤ 1 + length (but_at out (i + 1) row))
  next-pairs i = go (lt-or-le i (length row))
    where
      go : (i < length row) ⊎ (length row ≤ i)
          → (length (but_at out (i + 1) row) ≤ length (but_at out i row)) × (length (but_at out i row) ≤ 1 + length (but_at out (i + 1) row))
      go (inl l) = let step = walk-counts out row i (out (i + 1)) l refl in (omega (arith, step), omega (arith, step))
      go (inr l) = rw (walk_end out row i l, walk_end out row (i + 1) (omega arith)) (omega arith, omega arith)

  pairs-past : (i d : ℕ) → (length (but_at out (i + d) row) ≤ length (but_at out i row)) × (length (but_at out i row) ≤ d + length (but_at out (i + d) row))
  pairs-past i zero = rw (add-zero i) (omega arith, omega arith)
  pairs-past i (suc d) =
      let next : i + suc d ≡ i + d + 1 = omega arith in
      let before = pairs-past i d in
      let step = next-pairs (i + d) in
      rw next (omega (arith, before.0, step.0), omega (arith, before.1, step.1))

  pub later-pairs : (i j : ℕ) → i ≤ j → (length (but_at out j row) ≤ length (but_at out i row)) × (length (but_at out i row) ≤ j - i + length (but_at out j row))
  later-pairs i j h = let on : i + (j - i) ≡ j = omega arith in rw on at (pairs-past i (j - i))

pub but-length : (out : ℕ → Bool) (i : ℕ) (row : List ℕ) → length (pairs_but out i row) ≤ length row
unfolding pairs_but
but-length out i [] = omega arith
but-length out i (y ∷ row) = go (out i) (but-length out (i + 1) row)
  where
    go : (b : Bool) → length (pairs_but out (i + 1) row) ≤ length row
        → length (cond b (pairs_but out (i + 1) row) (record { x = 2 * i; y = y } ∷ pairs_but out (i + 1) row)) ≤ length (y ∷ row)
    go true h = omega arith
    go false h = omega arith

pub pairs-length : (row : List ℕ) → length (pairs_of row) ≤ length row
unfolding pairs_of
pairs-length row = but-length (left_out row) 1 row

-- where the pairs from number k on, from 0, are those at or after an index, the next x is that of pair k
pub next-found : (row : List ℕ) (k from r : ℕ) → NextPair row from r → drop k (pairs_of row) ≡ pairs_at from row → k < length (pairs_of row)
    → (r < length row) × (drop k (pairs_of row) ≡ pairs_at r row) × (pairs_at r row ≡ pair_at row r ∷ pairs_at (r + 1) row)
next-found row k from r n e h = go (lt-or-le r (length row))
  where
    go : (r < length row) ⊎ (length row ≤ r) → (r < length row) × (drop k (pairs_of row) ≡ pairs_at r row) × (pairs_at r row ≡ pair_at row r ∷ pairs_at (r + 1) row)
    go (inl l) = (l, e ∙ n.same, n.here l)
    go (inr l) = absurd (omega (arith, length-drop k (pairs_of row), ap length (e ∙ n.same ∙ walk_end (left_out row) row r l)))

-- the pairs after the first of those from number k on
pub rest-found : (pairs : List Pair) (k : ℕ) (a : Pair) (rest : List Pair) → drop k pairs ≡ a ∷ rest → drop (k + 1) pairs ≡ rest
rest-found pairs k a rest e = sym (drop-drop 1 k pairs) ∙ ap (drop 1) e
