-- N and M as the code counts them. Assumes nothing.
use Rattle.std.specs.Prelude.{◌≡◌, ℕ, ◌+◌, ◌≤◌, List, length}
use Rattle.store.specs.Stores.{rows_of}
use Rattle.store.specs.declared.record.Record.{Record}
use Rattle.lexleader.specs.Made.{rows_clauses, made_variables}
use Rattle.lexleader.specs.Bounds.{max_made_variables, max_made_clauses}
use Rattle.lexleader.specs.declared.counting.Totals.{Totals}

-- the totals are those of a record and its images: of a well-formed store, N and M (`counted-clauses`, proofs/MadeLaws.antt)
pub record Counted (counts : Record) (images : List ℕ) (r : Totals) : Type 0 where
  pub variables : r.variables ≡ made_variables counts.variables (rows_of counts.variables counts.rows images)
  pub clauses : r.clauses ≡ counts.clauses + length (rows_clauses (counts.variables + 1) (rows_of counts.variables counts.rows images))
  pub few-variables : r.variables ≤ max_made_variables
  pub few-clauses : r.clauses ≤ max_made_clauses
