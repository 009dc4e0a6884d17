-- The digits of numbers that follow one another. Assumes nothing.
use Rattle.std.specs.Prelude.{ℕ, zero, suc, ◌+◌, ◌-◌, length}
use Rattle.render.specs.Text.{decimal}

-- how many digits `count` numbers from `from` on have together
unfoldable pub run_digits : ℕ → ℕ → ℕ
run_digits from zero = 0
run_digits from (suc count) = length (decimal from) + run_digits (from + 1) count

-- The same for the numbers below v, 0 among them, by which power of ten they reach: each has a digit, those from 10 on one more, and so on up to 10,000.
unfoldable pub digits_below : ℕ → ℕ
digits_below v = v + (v - 10) + (v - 100) + (v - 1000) + (v - 10000)
