-- A row sends each of its variables to one of them, and no two to the same. Assumes nothing.
use mathlib.Core.Path.{◌≡◌}
use mathlib.Core.List.{List}
use Prim.Native.Nat.{ℕ, ◌-◌, ◌≤◌}
use native.Mathlib.Omega.{arith}
use Rattle.store.proofs.Formed.{Row}
use Rattle.cycles.specs.Cycles.{sent_to}

module _ (n : ℕ) (row : List ℕ) (r : Row n row) (j : ℕ) (low : 1 ≤ j) (high : j ≤ n) where
  pub sent-low : 1 ≤ sent_to row j
  unfolding sent_to
  sent-low = r.low (j - 1) (omega arith)

  pub sent-high : sent_to row j ≤ n
  unfolding sent_to
  sent-high = r.high (j - 1) (omega arith)

  pub sent-once : (k : ℕ) → 1 ≤ k → k ≤ n → sent_to row j ≡ sent_to row k → j ≡ k
  unfolding sent_to
  sent-once k low' high' e = let same : j - 1 ≡ k - 1 = r.one_place (j - 1) (k - 1) (omega arith) (omega arith) e in omega arith
