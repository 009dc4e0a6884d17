-- `descent::first_lowering` meets its contract. The invariant: a step by all rows is a step by row r and those after it. Assumes nothing.
use mathlib.Core.Path.{◌≡◌}
use Rattle.store.specs.Held.{held_by}
use Rattle.store.specs.Stores.{rows_from}
use Rattle.lexleader.specs.Descent.{step_by}
use Rattle.valuation.specs.Tables.{bits_in}
use Rattle.descent.proofs.first_lowering.Given as goal

abbrev pub invariant-loop-r : goal.invariant-loop-r
invariant-loop-r l =
    step_by (held_by l.rows) (bits_in l.rows.counts.variables l.values) ≡ step_by (rows_from l.rows.counts.variables l.rows.counts.rows l.rows.images.now l.r) (bits_in l.rows.counts.variables l.values)
