-- `store::form::is_formed` meets its contract: each test is one of the demands. Assumes nothing.
use Rattle.std.proofs.Common.{sym, ◌∙◌, arith}
use Rattle.store.specs.Stores.{held_rows}
use Rattle.store.proofs.Demands.{many-variables, many-clauses, many-rows, short-ends, falling-ends, many-literals, short-literals, bad-literal, short-images, rows-decide}
use Rattle.store.proofs.form.is_formed.Goals as goal

pub returns-then-n-gt-MAX_VARIABLES : goal.returns-then-n-gt-MAX_VARIABLES
returns-then-n-gt-MAX_VARIABLES c = sym (many-variables _ c.if-n-gt-MAX_VARIABLES.true)

pub returns-then-m-gt-MAX_CLAUSES : goal.returns-then-m-gt-MAX_CLAUSES
returns-then-m-gt-MAX_CLAUSES c = sym (many-clauses _ c.if-m-gt-MAX_CLAUSES.true)

pub returns-then-k-gt-MAX_ROWS : goal.returns-then-k-gt-MAX_ROWS
returns-then-k-gt-MAX_ROWS c = sym (many-rows _ c.if-k-gt-MAX_ROWS.true)

pub returns-then-ends-m : goal.returns-then-ends-m
returns-then-ends-m c = sym (short-ends _ c.if-ends-m.true)

pub returns-then-not-ends_rise : goal.returns-then-not-ends_rise
returns-then-not-ends_rise c = sym (falling-ends _ (sym c.ends_rise.ensures ∙ c.if-not-ends_rise.true))

pub returns-then-used-gt-MAX_LITERALS : goal.returns-then-used-gt-MAX_LITERALS
returns-then-used-gt-MAX_LITERALS c = sym (many-literals _ (omega (arith, c.literal_count-used.ensures)))

pub returns-then-literals-used : goal.returns-then-literals-used
returns-then-literals-used c = sym (short-literals _ (omega (arith, c.literal_count-used.ensures)))

pub returns-then-not-literals_within : goal.returns-then-not-literals_within
returns-then-not-literals_within c = sym (bad-literal _ (rw c.literal_count-used.ensures at (sym c.literals_within.ensures ∙ c.if-not-literals_within.true)))

pub returns-then-images-k : goal.returns-then-images-k
returns-then-images-k c = sym (short-images _ c.if-images-k.true)

pub returns : goal.returns
unfolding held_rows
returns c =
    c.rows_formed.ensures
    ∙ sym (rows-decide _ (record {
      variables-fit = c.if-n-gt-MAX_VARIABLES.false;
      clauses-fit = c.if-m-gt-MAX_CLAUSES.false;
      rows_fit = c.if-k-gt-MAX_ROWS.false;
      ends-long = c.if-ends-m.false;
      ends-rise = sym c.ends_rise.ensures ∙ c.if-not-ends_rise.false;
      literals-fit = omega (arith, c.literal_count-used.ensures);
      literals-long = omega (arith, c.literal_count-used.ensures);
      literals-good = rw c.literal_count-used.ensures at (sym c.literals_within.ensures ∙ c.if-not-literals_within.false);
      images-long = c.if-images-k.false;
    }))
