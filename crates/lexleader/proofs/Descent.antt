-- Descent in itself, for any rows: what a step finds, where it ends, and that moves come to an end. Assumes nothing.
use mathlib.Core.Path.{◌≡◌, refl, sym, ◌∙◌}
use mathlib.Core.Bool.{Bool, true, false, cond}
use mathlib.Core.List.Memᴰ
use mathlib.Core.List.{List, [], ◌∷◌, Memᴰ}
use Prim.Native.Nat.{ℕ, zero, suc, ◌+◌, ◌≤◌, ◌<◌}
use native.Mathlib.Omega.{arith}
use lib.ListN.{length}
use Rattle.lexleader.specs.Rows.{moved, lowers}
use Rattle.lexleader.specs.Kept.{Least, Carried, stay, move}
use Rattle.lexleader.specs.Descent.{Step, rest, to, step_by, Ending, settled, spent, descend_from, descend}
use Rattle.lexleader.proofs.Images.{length_moved}
use Rattle.lexleader.proofs.Order.{rank, less-rank}

-- some row makes a smaller
abbrev pub Lowered : List (List ℕ) → List Bool → Type 0
Lowered rows a = (row : List ℕ) × Memᴰ row rows × (lowers row a ≡ true)

-- what the search for a row finds
data Found (rows : List (List ℕ)) (a : List Bool) : Step → Type 0 where
  none : Least rows a → Found rows a rest
  by : (low : Lowered rows a) → Found rows a (to (moved low.0 a))

-- one row more at the front, which does not make a smaller
module _ (row : List ℕ) (rows : List (List ℕ)) (a : List Bool) (e : lowers row a ≡ false) where
  least_more : Least rows a → Least (row ∷ rows) a
  least_more least r (Memᴰ.head q) = rw q e
  least_more least r (Memᴰ.tail m) = least r m

  found-more : (s : Step) → Found rows a s → Found (row ∷ rows) a s
  found-more s (none least) = none (least_more least)
  found-more s (by low) = by (low.0, Memᴰ.tail low.1, low.2)

found : (rows : List (List ℕ)) (a : List Bool) → Found rows a (step_by rows a)
unfolding step_by
found [] a = none (λ row m. absurd (Memᴰ.not-nil m))
found (row ∷ rows) a = go (lowers row a) refl (found rows a)
  where
    go : (b : Bool) → lowers row a ≡ b → Found rows a (step_by rows a) → Found (row ∷ rows) a (cond b (to (moved row a)) (step_by rows a))
    go true e f = by (row, Memᴰ.head refl, e)
    go false e f = found-more row rows a e (step_by rows a) f

-- how a descent from a ends, `limit` being the most moves
abbrev pub Ended : List (List ℕ) → ℕ → List Bool → Ending → Type 0
Ended rows limit a (settled moves b) = Carried rows a b × Least rows b × (moves ≤ limit)
Ended rows limit a (spent moves b) = Lowered rows b × (moves ≡ limit)

ended_move : (rows : List (List ℕ)) (limit : ℕ) (a : List Bool) (row : List ℕ) → Memᴰ row rows
    → (x : Ending) → Ended rows limit (moved row a) x → Ended rows limit a x
ended_move rows limit a row m (settled moves b) h = (move row m h.0, h.1, h.2)
ended_move rows limit a row m (spent moves b) h = h

ended-from : (limit moves left : ℕ) → moves + left ≡ limit → (rows : List (List ℕ)) (a : List Bool) → Ended rows limit a (descend_from moves left rows a)
unfolding descend_from
ended-from limit moves zero e rows a = go (step_by rows a) (found rows a)
  where
    go : (s : Step) → Found rows a s → Ended rows limit a (elim s [ rest ↦ settled moves a | to b ↦ spent moves a ])
    go s (none least) = (stay, least, omega arith)
    go s (by low) = (low, omega arith)
ended-from limit moves (suc left) e rows a = go (step_by rows a) (found rows a) (λ b. ended-from limit (moves + 1) left (omega arith) rows b)
  where
    go : (s : Step) → Found rows a s → ((b : List Bool) → Ended rows limit b (descend_from (moves + 1) left rows b))
        → Ended rows limit a (elim s [ rest ↦ settled moves a | to b ↦ descend_from (moves + 1) left rows b ])
    go s (none least) k = (stay, least, omega arith)
    go s (by low) k = ended_move rows limit a low.0 low.1 (descend_from (moves + 1) left rows (moved low.0 a)) (k (moved low.0 a))

pub ended : (limit : ℕ) (rows : List (List ℕ)) (a : List Bool) (x : Ending) → descend limit rows a ≡ x → Ended rows limit a x
ended limit rows a x e = rw e at (ended-from limit 0 limit (omega arith) rows a)

-- every assignment is carried to one that no row makes smaller
module _ (n : ℕ) (rows : List (List ℕ)) (sizes : (row : List ℕ) → Memᴰ row rows → length row ≡ n) where
  reach : (most : ℕ) (a : List Bool) → length a ≡ n → rank a < most → (b : List Bool) × Carried rows a b × Least rows b
  unfolding lowers
  reach zero a size h = absurd (omega arith)
  reach (suc most) a size h = go (step_by rows a) (found rows a) (reach most)
    where
      go : (s : Step) → Found rows a s → ((c : List Bool) → length c ≡ n → rank c < most → (b : List Bool) × Carried rows c b × Least rows b)
          → (b : List Bool) × Carried rows a b × Least rows b
      go s (none least) k = (a, stay, least)
      go s (by low) k =
          let c : List Bool = moved low.0 a in
          let held : length c ≡ n = length_moved low.0 a ∙ sizes low.0 low.1 in
          let r = k c held (omega (arith, less-rank c a (held ∙ sym size) low.2)) in
          (r.0, move low.0 low.1 r.1, r.2)

  pub carried-to-least : (a : List Bool) → length a ≡ n → (b : List Bool) × Carried rows a b × Least rows b
  carried-to-least a size = reach (suc (rank a)) a size (omega arith)
