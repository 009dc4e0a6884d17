-- N and M as sums over the rows (documents 01 and 02, CR 6), by how many x each row has. Assumes nothing.
use Rattle.std.specs.Prelude.{ℕ, ◌+◌, ◌-◌, ◌*◌, cond, List, [], ◌∷◌, length, eqb}
use Rattle.lexleader.specs.Rows.{pairs_of}

-- the sum over rows of what each adds, where one with x1 .. xk adds `more k`
unfoldable pub sum_over : (ℕ → ℕ) → List (List ℕ) → ℕ
sum_over more [] = 0
sum_over more (row ∷ rows) = more (length (pairs_of row)) + sum_over more rows

-- "N = n + the sum of (k-1) over the rows that move something": for one that moves nothing, 0 - 1 is 0
abbrev pub auxiliaries_for : ℕ → ℕ
auxiliaries_for k = k - 1

-- M = m + the sum of these: "6 times" k-1, and "a row with k = 1 adds the single clause -x1 y1 and no auxiliary, and M counts it"
abbrev pub clauses_for : ℕ → ℕ
clauses_for k = cond (eqb k 1) 1 (6 * (k - 1))
