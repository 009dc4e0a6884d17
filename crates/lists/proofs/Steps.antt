-- A loop over a list from index i on: what is left is its first element and the rest, and what that means for a test; and a walk forward to an end. Assumes nothing.
use mathlib.Core.Path.{◌≡◌, sym}
use mathlib.Core.Bool.{Bool, true, false, ◌&&◌, and_assoc}
use mathlib.Core.List.{List, ◌∷◌}
use Prim.Native.Nat.{ℕ, zero, suc, ◌+◌, ◌≤◌, ◌<◌}
use native.Mathlib.Numerals.{add-one}
use native.Mathlib.Omega.{arith}
use lib.ListN.{length, get_or, drop, drop_of_length-le}
use lib.Seq.{drop-cons}
use Rattle.lists.specs.Tests.{any_of, all_of}

pub drop-step : {A : Type 0} (l : List A) (i : ℕ) (d : A) → i < length l → drop i l ≡ get_or l i d ∷ drop (i + 1) l
drop-step l i d h = rw add-one (drop-cons l i d h)

module _ {A : Type 0} (q : A → Bool) (l : List A) (i : ℕ) where
  pub all-drop-miss : (d : A) → i < length l → q (get_or l i d) ≡ false → all_of q (drop i l) ≡ false
  unfolding all_of
  all-drop-miss d h e = rw (drop-step l i d h, e)

  pub all-drop-hit : (d : A) → i < length l → q (get_or l i d) ≡ true → all_of q (drop i l) ≡ all_of q (drop (i + 1) l)
  unfolding all_of
  all-drop-hit d h e = rw (drop-step l i d h, e)

  -- the same for a loop that is not left at a miss: b is whether all before i pass, t whether that at i does
  pub all-drop-step : (b t : Bool) (d : A) → i < length l → t ≡ q (get_or l i d) → (b && all_of q (drop i l)) ≡ (b && t && all_of q (drop (i + 1) l))
  unfolding all_of
  all-drop-step b t d h e = rw (drop-step l i d h, e) (sym (and_assoc b (q (get_or l i d)) (all_of q (drop (i + 1) l))))

  pub all-drop-end : length l ≤ i → all_of q (drop i l) ≡ true
  unfolding all_of
  all-drop-end h = rw (drop_of_length-le l {i = i} h)

  pub any-drop-hit : (d : A) → i < length l → q (get_or l i d) ≡ true → any_of q (drop i l) ≡ true
  unfolding any_of
  any-drop-hit d h e = rw (drop-step l i d h, e)

  pub any-drop-miss : (d : A) → i < length l → q (get_or l i d) ≡ false → any_of q (drop i l) ≡ any_of q (drop (i + 1) l)
  unfolding any_of
  any-drop-miss d h e = rw (drop-step l i d h, e)

  pub any-drop-end : length l ≤ i → any_of q (drop i l) ≡ false
  unfolding any_of
  any-drop-end h = rw (drop_of_length-le l {i = i} h)

-- what holds from an end on, and at a place before it where it holds at all later ones, holds everywhere
module _ (end : ℕ) (P : ℕ → Type 0) (past : (at : ℕ) → end ≤ at → P at) (here : (at : ℕ) → ((next : ℕ) → at < next → P next) → P at) where
  forward-in : (steps at : ℕ) → end ≤ at + steps → P at
  forward-in zero at h = past at (omega arith)
  forward-in (suc steps) at h = here at (λ next k. forward-in steps next (omega arith))

  pub forward : (at : ℕ) → P at
  forward at = forward-in end at (omega arith)
