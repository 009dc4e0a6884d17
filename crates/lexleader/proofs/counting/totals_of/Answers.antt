-- `lexleader::counting::totals_of` meets its contract. Assumes nothing.
use mathlib.Core.Path.{sym, ap}
use Prim.Native.Nat.{ℕ, ◌+◌}
use native.Mathlib.Omega.{arith}
use lib.Seq.{length-take-le}
use Rattle.lexleader.specs.Made.{made_variables}
use Rattle.lexleader.proofs.counting.totals_of.Goals as goal

pub slice_bounds-marks-end : goal.slice_bounds-marks-end
slice_bounds-marks-end c = omega (arith, c.args.rows.formed.small)

pub slice_bounds-added_by_rows-end : goal.slice_bounds-added_by_rows-end
slice_bounds-added_by_rows-end c = sym (length-take-le _ _ (omega (arith, c.args.rows.formed.small)))

pub added_by_rows-added-requires : goal.added_by_rows-added-requires
added_by_rows-added-requires c = sym (slice_bounds-added_by_rows-end c)

pub returns : goal.returns
unfolding made_variables
returns c =
    let counts = c.args.rows.counts in
    record {
      variables = ap (λ (k : ℕ). counts.variables + k) c.added_by_rows-added.ensures.0;
      clauses = ap (λ (k : ℕ). counts.clauses + k) (c.added_by_rows-added.ensures.1 (counts.variables + 1));
      few-variables = omega (arith, c.args.rows.formed.small, c.added_by_rows-added.ensures.2);
      few-clauses = omega (arith, c.requires, c.added_by_rows-added.ensures.3);
    }
