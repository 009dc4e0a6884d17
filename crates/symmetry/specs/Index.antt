-- An index of the clauses of a formula by their keys, by which the image of a clause is looked for. Assumes nothing.
use Rattle.std.specs.Prelude.{ℕ, ◌/◌, ◌%◌, ◌≤◌, ◌≡◌, List, length, get_or}
use Rattle.numbers.specs.Numbers.{count_range}
use Rattle.buckets.specs.Buckets.{IndexHolds}

-- how many buckets there are
abbrev pub bucket_count : ℕ
bucket_count = 4096

-- a key's bucket: its last bits but for those that are a count
abbrev pub bucket_of : ℕ → ℕ
bucket_of key = key / count_range % bucket_count

-- the bucket of clause c, from 0
abbrev pub clause_bucket : List ℕ → ℕ → ℕ
clause_bucket keys c = bucket_of (get_or keys c 0)

-- an index of m clauses
pub record Indexed (m : ℕ) (keys heads nexts : List ℕ) : Type 0 where
  pub holds : IndexHolds (clause_bucket keys) m heads nexts
  pub heads-long : length heads ≡ bucket_count
  pub nexts-long : m ≤ length nexts
