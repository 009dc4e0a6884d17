-- `trial::decides` meets its contract, by one law for each way out. Assumes nothing.
use native.Mathlib.Omega.{arith}
use Rattle.trial.proofs.PairLaws.{decides-past, decides-moved, placed-here}
use Rattle.trial.proofs.decides.Goals as goal

pub returns-then-image-own : goal.returns-then-image-own
returns-then-image-own c = decides-past _ _ _ c.requires.0 c.requires.1 (omega (arith, c.if-image-own.true))

pub bounds-values-own : goal.bounds-values-own
bounds-values-own c = (placed-here _ _ _ c.requires.0 c.requires.1 (λ own. omega arith)).0

pub bounds-values-image : goal.bounds-values-image
bounds-values-image c = (placed-here _ _ _ c.requires.0 c.requires.1 (λ own. omega arith)).1

pub returns : goal.returns
returns c = decides-moved _ _ _ c.requires.0 c.requires.1 (λ own. omega arith)
