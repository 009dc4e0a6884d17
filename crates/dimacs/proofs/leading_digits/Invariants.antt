-- `dimacs::leading_digits` meets its contract. The invariant: the digits from 0 and those from `count` end at one place and have one value, where
-- `value` is that of the first `count` and is below 10 ^ count. Assumes nothing.
use Rattle.std.proofs.Common.{◌≡◌, ◌^◌, ◌<◌, length, drop}
use Rattle.dimacs.specs.Words.{run, run_end}
use Rattle.dimacs.specs.Numbers.{decimal_from, is_digit}
use Rattle.dimacs.proofs.leading_digits.Given as goal

abbrev pub invariant-loop-count : goal.invariant-loop-count
invariant-loop-count l = record {
  small : l.value < 10 ^ l.count;
  ends : length (run is_digit l.bytes) ≡ run_end is_digit l.bytes l.count;
  says : decimal_from 0 (run is_digit l.bytes) ≡ decimal_from l.value (run is_digit (drop l.count l.bytes));
}
