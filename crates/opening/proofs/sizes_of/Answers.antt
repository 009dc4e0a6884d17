-- `opening::sizes_of` meets its contract: the first two words one after the other, and then what `two_numbers` says of the rest. Assumes nothing.
use mathlib.Core.Path.{sym, ap, ◌∙◌}
use mathlib.Core.List.{List, ◌∷◌}
use Rattle.dimacs.specs.Words.{is_blank, Piece}
use Rattle.dimacs.proofs.Runs.{run-within}
use Rattle.dimacs.proofs.WordLaws.{piece_at}
use Rattle.opening.specs.Problem.{four_words}
use Rattle.opening.proofs.SizeLaws.{no-p, StartsP, starts-p, no-cnf, ThenCnf, then-cnf}
use native.Mathlib.Omega.{arith}
use Rattle.opening.proofs.sizes_of.Goals as goal
use Rattle.opening.proofs.sizes_of.Goals.{Else-not-is_word, Else-not-is_word-2}

pub returns-then-not-is_word : goal.returns-then-not-is_word
returns-then-not-is_word c = sym (no-p _ (sym c.is_word.ensures ∙ c.if-not-is_word.true))

-- what is known after the word `p`, and after the word `cnf`
starts : (c : Else-not-is_word) → StartsP c.args.line.now
starts c = starts-p _ (sym c.is_word.ensures ∙ c.if-not-is_word.false)

pub is_word-requires-2 : goal.is_word-requires-2
is_word-requires-2 c =
    let line = c.args.line.now in
    omega (arith, run-within is_blank line 1 (starts (goal.at.is_word-requires-2 c).Else-not-is_word).some, c.next_word-cnf.ensures)

pub returns-then-not-is_word-2 : goal.returns-then-not-is_word-2
returns-then-not-is_word-2 c =
    sym ((starts (goal.at.returns-then-not-is_word-2 c).Else-not-is_word).sizes ∙ no-cnf _ _ c.next_word-cnf.ensures (sym c.is_word-2.ensures ∙ c.if-not-is_word-2.true))

goes_on : (c : Else-not-is_word-2) → ThenCnf c.args.line.now c.next_word-cnf.result c.next_word-cnf.ensures
goes_on c = then-cnf _ _ _ (sym c.is_word-2.ensures ∙ c.if-not-is_word-2.false)

pub overflow_add-cnf : goal.overflow_add-cnf
overflow_add-cnf c = omega (arith, goes_on c)

pub returns : goal.returns
returns c =
    let line = c.args.line.now in
    let is-p = sym c.is_word.ensures ∙ c.if-not-is_word.false in
    let is-cnf = sym c.is_word-2.ensures ∙ c.if-not-is_word-2.false in
    c.two_numbers.ensures (piece_at line 0) (piece_at line c.next_word-cnf.result) is-p is-cnf
    ∙ sym ((starts (goal.at.returns c).Else-not-is_word).sizes ∙ ap (λ (ws : List Piece). four_words (piece_at line 0 ∷ ws)) (goes_on (goal.at.returns c).Else-not-is_word-2).words)
