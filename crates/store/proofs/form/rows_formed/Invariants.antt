-- `store::form::rows_formed` meets its contract. The invariant: all rows are permutations if those from row r on are. Assumes nothing.
use Rattle.std.proofs.Common.{◌≡◌}
use Rattle.lists.specs.Tests.{all_of}
use Rattle.store.specs.Stores.{is_row, rows_of, rows_from}
use Rattle.store.proofs.form.rows_formed.Given as goal

abbrev pub invariant-loop-r : goal.invariant-loop-r
invariant-loop-r l = all_of (is_row l.n) (rows_of l.n l.k l.images) ≡ all_of (is_row l.n) (rows_from l.n l.k l.images l.r)
