-- The order of assignments of one length is that of the numbers that they are in binary, so no descent is endless. Assumes nothing.
use mathlib.Core.Path.{◌≡◌}
use mathlib.Core.Bool.{Bool, true, false}
use mathlib.Core.List.{List, [], ◌∷◌}
use Prim.Native.Nat.{ℕ, ◌+◌, ◌^◌, ◌<◌}
use native.Mathlib.Nat.{pow-suc}
use native.Mathlib.Omega.{arith}
use lib.ListN.{length}
use Rattle.lists.proofs.Cases.{never}
use Rattle.packed.specs.Order.{less}

unfoldable pub rank : List Bool → ℕ
rank [] = 0
rank (true ∷ a) = 2 ^ length a + rank a
rank (false ∷ a) = rank a

rank_lt : (a : List Bool) → rank a < 2 ^ length a
unfolding rank
rank_lt [] = omega arith
rank_lt (true ∷ a) = omega (arith, rank_lt a, pow-suc 2 (length a))
rank_lt (false ∷ a) = omega (arith, rank_lt a, pow-suc 2 (length a))

pub less-rank : (a b : List Bool) → length a ≡ length b → less a b ≡ true → rank a < rank b
unfolding rank less
less-rank [] b l h = never h
less-rank (x ∷ a) [] l h = never h
less-rank (true ∷ a) (true ∷ b) l h = let e : length a ≡ length b = omega arith in rw e (omega (arith, less-rank a b e h))
less-rank (true ∷ a) (false ∷ b) l h = never h
less-rank (false ∷ a) (true ∷ b) l h = let e : length a ≡ length b = omega arith in omega (arith, rw e at (rank_lt a))
less-rank (false ∷ a) (false ∷ b) l h = less-rank a b (omega arith) h
