-- `dimacs::read` meets its contract, by one law for each way out of a walk through the word. Assumes nothing.
use Rattle.std.proofs.Common.{ℕ, ◌+◌, List, length, get_or, eqb, refl, sym, ap, ◌∙◌, arith, rules}
use mir.Val.{bool_byte}
use Rattle.dimacs.specs.Words.{run}
use Rattle.dimacs.specs.Numbers.{is_digit, decimal_from}
use Rattle.dimacs.proofs.WordLaws.{read_past}
use Rattle.dimacs.proofs.ReadLaws.{Walked, window-part, walked-within, walked_on, walked_none, walked-padded, walked-zero, walked-number}
use Rattle.dimacs.proofs.read.Goals as goal
use Rattle.dimacs.proofs.read.Goals.{After-struct_known-1, else-text-start-eq48-via-then-text-start-eq48+else-not-alone, else-text-start-eq48-via-else-text-start-eq48}

pub returns-then-text-at : goal.returns-then-text-at
returns-then-text-at c = sym (read_past _ _ c.if-text-at.true)

-- what the walk has found where the word may end
walked : (c : After-struct_known-1) → let negative = eqb (get_or c.args.text.now c.args.at 0) 45 in
    let from = c.args.at + bool_byte negative in
    Walked c.args.text.now c.args.at from (from + c.leading_digits-digits.result.count) c.leading_digits-digits.result.value negative
walked c =
    let from = c.args.at + bool_byte (eqb (get_or c.args.text.now c.args.at 0) 45) in
    let part = window-part c.args.text.now from _ c.min-most.ensures in
    record {
      inside = search rules;
      sign = refl;
      from = refl;
      digits = ap (λ (n : ℕ). from + n) (c.leading_digits-digits.ensures.0 ∙ ap (λ (l : List ℕ). length (run is_digit l)) part);
      decimal = c.leading_digits-digits.ensures.1 ∙ ap (λ (l : List ℕ). decimal_from 0 (run is_digit l)) part;
    }

pub overflow_add-end : goal.overflow_add-end
overflow_add-end c = omega (arith, walked-within (walked c))

pub returns-then-not-word_ends : goal.returns-then-not-word_ends
returns-then-not-word_ends c = sym (walked_on (walked (goal.at.returns-then-not-word_ends c).After-struct_known-1) (sym c.word_ends.ensures ∙ c.if-not-word_ends.true))

pub returns-then-end-start : goal.returns-then-end-start
returns-then-end-start c =
    sym (walked_none (walked (goal.at.returns-then-end-start c).After-struct_known-1) (sym c.word_ends.ensures ∙ c.if-not-word_ends.false) c.if-end-start.true)

pub bounds-text-start : goal.bounds-text-start
bounds-text-start c = omega (arith, walked-within (walked (goal.at.bounds-text-start c).After-struct_known-1))

pub returns-then-not-alone : goal.returns-then-not-alone
returns-then-not-alone c =
    sym (walked-padded (walked (goal.at.returns-then-not-alone c).After-struct_known-1) (sym c.word_ends.ensures ∙ c.if-not-word_ends.false) c.if-end-start.false c.if-text-start-eq48.true c.if-not-alone.true)

pub returns : goal.returns
returns c =
    let w = walked (goal.at.returns c).After-struct_known-1 in
    elim c.else-text-start-eq48.branch [
      | else-text-start-eq48-via-then-text-start-eq48+else-not-alone v ↦
          sym (walked-zero w (sym c.word_ends.ensures ∙ c.if-not-word_ends.false) c.if-end-start.false v.if-not-alone.false)
      | else-text-start-eq48-via-else-text-start-eq48 v ↦
          sym (walked-number w (sym c.word_ends.ensures ∙ c.if-not-word_ends.false) c.if-end-start.false v.if-text-start-eq48.false)
    ]
