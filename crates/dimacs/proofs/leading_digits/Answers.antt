-- `dimacs::leading_digits` meets its contract. Assumes nothing.
use Rattle.std.proofs.Common.{◌≡◌, true, false, ◌∙◌, sym, arith, length, get_or}
use Rattle.dimacs.specs.Numbers.{is_digit}
use Rattle.dimacs.proofs.Runs.{run-stop, run_step, run_end_lem}
use Rattle.dimacs.proofs.NumberLaws.{ascii-digit, digit-range, grow, decimal_step, decimal-stop, decimal-end}
use Rattle.dimacs.proofs.leading_digits.Goals as goal

pub returns-then-not-is_ascii_digit : goal.returns-then-not-is_ascii_digit
returns-then-not-is_ascii_digit c =
    let failed : is_digit (get_or c.args.bytes.now c.loop-count.count 0) ≡ false = sym (c.is_ascii_digit.ensures.value ∙ ascii-digit _) ∙ c.if-not-is_ascii_digit.true in (
      sym (c.loop-count.invariant.ends ∙ run-stop is_digit _ c.loop-count.count c.loop-count-test.true failed),
      sym (c.loop-count.invariant.says ∙ decimal-stop _ _ c.loop-count.count c.loop-count-test.true failed),
    )

pub loop-count-preserved : goal.loop-count-preserved
loop-count-preserved c =
    let passed : is_digit (get_or c.args.bytes.now c.loop-count.count 0) ≡ true = sym (c.is_ascii_digit.ensures.value ∙ ascii-digit _) ∙ c.if-not-is_ascii_digit.false in
    record {
      small = grow _ _ _ c.loop-count.invariant.small (omega (arith, digit-range _ passed));
      ends = c.loop-count.invariant.ends ∙ run_step is_digit _ c.loop-count.count c.loop-count-test.true passed;
      says = rw c.from.ensures (c.loop-count.invariant.says ∙ decimal_step _ _ c.loop-count.count c.loop-count-test.true passed);
    }

pub returns : goal.returns
returns c =
    let whole : length c.args.bytes.now ≡ c.loop-count.count = omega arith in (
      whole ∙ sym (c.loop-count.invariant.ends ∙ run_end_lem is_digit _ c.loop-count.count c.loop-count-test.false),
      sym (c.loop-count.invariant.says ∙ decimal-end _ _ c.loop-count.count c.loop-count-test.false),
    )
