-- Bounds on the made formula, from the limits of the store (document 01: "At most 512 variables, 4,096 clauses", 64 rows; "N is at most 33,216"). A row's x are
-- at most all variables, so it adds at most one auxiliary less than there are. Assumes nothing.
use Rattle.std.specs.Prelude.{ℕ, ◌+◌, ◌-◌, ◌*◌}
use Rattle.store.specs.Stores.{max_variables, max_clauses, max_rows}

-- 32,704
abbrev pub max_auxiliaries : ℕ
max_auxiliaries = max_rows * (max_variables - 1)

-- N, 33,216
abbrev pub max_made_variables : ℕ
max_made_variables = max_variables + max_auxiliaries

-- M, 200,320
abbrev pub max_made_clauses : ℕ
max_made_clauses = max_clauses + 6 * max_auxiliaries

-- the greatest that the last number in use can be before row r, from 0
abbrev pub max_before : ℕ → ℕ
max_before r = max_variables + r * (max_variables - 1)
