-- What the code's types of well-formed parts hold, in the words of `Stores.antt`. Assumes nothing.
use Rattle.std.specs.Prelude.{ℕ, List}
use Rattle.store.specs.Stores.{Store, stored, clauses_in, rows_of}
use Rattle.store.specs.declared.clauses.Clauses.{Clauses}
use Rattle.store.specs.declared.form.Formed.{Formed}
use Rattle.store.specs.declared.rows.Rows.{Rows}

-- the store that a well-formed one is
abbrev pub store_of : Formed → Store
store_of s = stored s.rows.counts s.literals s.ends s.rows.images

-- the rows, as lists
abbrev pub held_by : Rows → List (List ℕ)
held_by rows = rows_of rows.counts.variables rows.counts.rows rows.images.now

-- the clauses, as lists
abbrev pub formula_of : Clauses → List (List ℕ)
formula_of c = clauses_in c.count c.literals.now c.ends.now
