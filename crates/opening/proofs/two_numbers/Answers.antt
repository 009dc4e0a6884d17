-- `opening::two_numbers` meets its contract: a number, a second one, and no word after them. Assumes nothing.
use Rattle.std.proofs.Common.{◌≡◌, ℕ, sym, ap, ◌∙◌, List, [], ◌∷◌}
use Rattle.dimacs.specs.Words.{Piece, words_at}
use Rattle.dimacs.specs.declared.Number.{Number}
use Rattle.dimacs.proofs.WordLaws.{piece_at, no_word, next_word}
use Rattle.opening.specs.Problem.{four_words}
use Rattle.opening.proofs.NextNumber.{NextNumber, line-found, line-missing}
use Rattle.opening.proofs.SizeLaws.{first-missing, second-missing, two-numbers, five-words}
use Rattle.opening.proofs.two_numbers.Goals as goal
use Rattle.opening.proofs.two_numbers.Goals.{In-Ok, In-Ok-read}

pub returns-in_default : goal.returns-in_default
returns-in_default c =
    λ p cnf is-p is-cnf.
    sym (first-missing p cnf is-p is-cnf _ (line-missing _ _ _ c.next_word-first.ensures _ (sym c.read.ensures ∙ c.in_default.is)))

-- the first number, and the second
first : (c : In-Ok) → NextNumber c.args.line.now (words_at c.args.line.now) c.args.at c.next_word-first.result c.in-Ok.n c.in-Ok.past_n.at
first c = line-found _ _ _ c.next_word-first.ensures _ _ (sym c.read.ensures ∙ c.in-Ok.is)

pub returns-in_default-read : goal.returns-in_default-read
returns-in_default-read c =
    λ p cnf is-p is-cnf.
    let n = first (goal.at.returns-in_default-read c).In-Ok in
    let no_number = line-missing _ _ _ c.next_word-second.ensures _ (sym c.read-2.ensures ∙ c.in_default-read.is) in
    sym (ap (λ (ws : List Piece). four_words (p ∷ cnf ∷ ws)) n.words ∙ second-missing p cnf is-p is-cnf _ _ n.number _ no_number)

second : (c : In-Ok-read) → NextNumber c.args.line.now (words_at c.args.line.now) c.in-Ok.past_n.at c.next_word-second.result c.in-Ok-read.m c.in-Ok-read.past_m.at
second c = line-found _ _ _ c.next_word-second.ensures _ _ (sym c.read-2.ensures ∙ c.in-Ok-read.is)

-- both numbers, and then the words after them
both : {line : List ℕ} {at first second past-n past-m : ℕ} {n m : Number} → NextNumber line (words_at line) at first n past-n → NextNumber line (words_at line) past-n second m past-m
    → (p cnf : Piece) (rest : List Piece) → words_at line past-m ≡ rest
    → four_words (p ∷ cnf ∷ words_at line at) ≡ four_words (p ∷ cnf ∷ piece_at line first ∷ piece_at line second ∷ rest)
both n m p cnf rest e = rw (n.words, m.words, e)

pub returns-then-next_word-line : goal.returns-then-next_word-line
returns-then-next_word-line c =
    λ p cnf is-p is-cnf.
    let place = goal.at.returns-then-next_word-line c in
    let more = next_word _ _ _ c.next_word.ensures c.if-next_word-line.true in
    sym (both (first place.In-Ok) (second place.In-Ok-read) p cnf _ more ∙ five-words _ _ _ _ _ _)

pub returns : goal.returns
returns c =
    λ p cnf is-p is-cnf.
    let place = goal.at.returns c in
    let n = first place.In-Ok in
    let m = second place.In-Ok-read in
    c.sizes_if.ensures
    ∙ sym
    (both n m p cnf [] (no_word _ _ _ c.next_word.ensures c.if-next_word-line.false)
    ∙ two-numbers p cnf is-p is-cnf _ _ n.number _ _ m.number)
