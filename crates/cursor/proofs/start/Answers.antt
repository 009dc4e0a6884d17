-- `cursor::start` meets its contract: no plain clause is passed yet, and the rows' clauses begin with the first row. Assumes nothing.
use mathlib.Core.Path.{ap, ap₂, ◌∙◌}
use mathlib.Core.List.{List, ◌++◌}
use Prim.Native.Nat.{ℕ, ◌+◌}
use native.Mathlib.Omega.{arith}
use lib.ListN.{drop}
use Rattle.store.proofs.RowLaws.{from_first}
use Rattle.lexleader.specs.Made.{made, rows_clauses}
use Rattle.cursor.specs.Cursors.{remaining}
use Rattle.cursor.proofs.start.Goals as goal

pub overflow_cast-rows : goal.overflow_cast-rows
overflow_cast-rows c = omega (arith, c.args.rows.formed.small)

pub overflow_add-rows : goal.overflow_add-rows
overflow_add-rows c = omega (arith, c.args.rows.formed.small)

pub row_from-requires : goal.row_from-requires
row_from-requires c = (c.requires, omega arith, omega arith, omega (arith, c.args.rows.formed.small))

pub returns : goal.returns
unfolding remaining made
returns c = let a = c.args in
    let n = a.rows.counts.variables in
    let all = c.row_from.ensures.remaining ∙ ap (rows_clauses (n + 1)) (from_first n a.rows.counts.rows a.rows.images.now) in
    record {
      stands = c.row_from.ensures.stands.0;
      remaining = λ plain. ap₂ (λ (k : ℕ) (l : List (List ℕ)). drop k plain ++ l) c.row_from.ensures.stands.1 all;
      marks = c.row_from.ensures.marks;
    }
