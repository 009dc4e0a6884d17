-- What the code says of a row's variables: marks of those left out, the mark of variable i at index i - 1, and what going round one cycle does to them.
-- Assumes nothing.
use Rattle.std.specs.Prelude.{◌≡◌, Bool, true, false, not, cond, ◌&&◌, List, [], ◌∷◌, ℕ, ◌+◌, ◌-◌, ◌≤◌, length, get_or}
use Rattle.lists.specs.Tests.{has}
use Rattle.lists.specs.Tables.{table}
use Rattle.cycles.specs.Cycles.{cycle_of, turns_odd, left_out}

-- the marks of a row
unfoldable pub marks_of : List ℕ → List Bool
marks_of row = table (length row) (λ k. left_out row (k + 1))

-- how many have no mark
unfoldable pub unmarked : List Bool → ℕ
unmarked [] = 0
unmarked (mark ∷ marks) = cond mark 0 1 + unmarked marks

-- Where variable z has no mark, nothing is changed. Otherwise the marks of the others in its cycle are taken away, and z keeps its own unless going round turns
-- the sign an odd number of times.
pub record Visited (row : List ℕ) (z : ℕ) (before after : List Bool) : Type 0 where
  pub room : length after ≡ length before
  pub idle : get_or before (z - 1) false ≡ false → after ≡ before
  pub own : get_or before (z - 1) false ≡ true → get_or after (z - 1) false ≡ not (turns_odd row z)
  pub others : get_or before (z - 1) false ≡ true → (x : ℕ) → 1 ≤ x → x ≤ length row → (x ≡ z → ⊥)
      → get_or after (x - 1) false ≡ (get_or before (x - 1) false && not (has (cycle_of row z) x))
