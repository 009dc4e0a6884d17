-- `quality::efficiency` meets its contract: the product is at most 10^16. Assumes nothing.
use native.Mathlib.Omega.{arith}
use Rattle.quality.specs.Efficiency.{efficiency_of}
use Rattle.quality.proofs.Laws.{Counts, counts}
use Rattle.quality.proofs.efficiency.Goals as goal
use Rattle.quality.proofs.efficiency.Goals.{Start}

known : (c : Start) → Counts c.args.labelled c.args.unlabelled c.args.allowed
known c = counts _ _ _ c.requires

pub overflow_sub-labelled : goal.overflow_sub-labelled
overflow_sub-labelled c = omega (arith, known c)

pub overflow_mul-labelled : goal.overflow_mul-labelled
overflow_mul-labelled c = omega (arith, known c)

pub overflow_sub-labelled-2 : goal.overflow_sub-labelled-2
overflow_sub-labelled-2 c = omega (arith, known c)

pub nearest-requires : goal.nearest-requires
nearest-requires c = record {
  y_nonzero = omega (arith, known c);
  y_le_max_labelled = omega (arith, known c);
}

pub returns : goal.returns
unfolding efficiency_of
returns c = c.nearest.ensures
