-- The numbers 0, 1, .., each in a bucket, and what an index of them holds. Assumes nothing.
use Rattle.std.specs.Prelude.{◌≡◌, ℕ, zero, suc, ◌<◌, cond, List, length, get_or, eqb}

-- the last in bucket b of 0, .., k - 1, from 1; 0 where there is none
unfoldable pub last_in : (ℕ → ℕ) → ℕ → ℕ → ℕ
last_in bucket_of zero b = 0
last_in bucket_of (suc k) b = cond (eqb (bucket_of k) b) (suc k) (last_in bucket_of k b)

-- an index of 0, .., k - 1: the last in each bucket, and for each the last before it in its own
pub record IndexHolds (bucket_of : ℕ → ℕ) (k : ℕ) (heads nexts : List ℕ) : Type 0 where
  pub head : (b : ℕ) → b < length heads → get_or heads b 0 ≡ last_in bucket_of k b
  pub next : (c : ℕ) → c < k → get_or nexts c 0 ≡ last_in bucket_of c (bucket_of c)
