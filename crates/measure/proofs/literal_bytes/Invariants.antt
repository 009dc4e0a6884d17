-- `measure::literal_bytes` meets its contract. The invariant: the bytes of all literals are those added up and those of the literals that are left. Assumes nothing.
use Rattle.std.proofs.Common.{◌≡◌, ◌+◌, ◌*◌, ◌≤◌, drop}
use Rattle.lists.specs.Sums.{sum_of}
use Rattle.measure.specs.Shares.{word_bytes}
use Rattle.measure.proofs.literal_bytes.Given as goal

abbrev pub invariant-loop-code : goal.invariant-loop-code
invariant-loop-code l =
    (l.sum ≤ 5 * l.code-index) × (sum_of word_bytes l.literals ≡ l.sum + sum_of word_bytes (drop l.code-index l.literals))
