-- `batch::inputs` is safe: an input begins within what was read. Assumes nothing.
use Rattle.std.proofs.Common.{◌≤◌, length}
use Rattle.batch.proofs.inputs.Given as goal

abbrev pub invariant-loop-count : goal.invariant-loop-count
invariant-loop-count l = l.at ≤ length l.data
