-- Document 01's texts and those at its edges, by computation on the definitions. Assumes nothing.
use mathlib.Core.Path.{◌≡◌, refl}
use mathlib.Core.List.{List, [], ◌∷◌, map}
use Prim.Native.Nat.{ℕ}
use Rattle.std.proofs.Common.{Result, Ok, Err}
use Rattle.lists.specs.Tests.{all_of}
use Rattle.dimacs.specs.Words.{is_blank, run, words_from}
use Rattle.dimacs.specs.Lines.{lines_from}
use Rattle.dimacs.specs.Numbers.{is_digit, decimal_from, digits_of, size_of, numeral_of}
use Rattle.comments.specs.Comments.{after_comments, words_in}
use Rattle.store.specs.Numerals.{code_in}
use Rattle.store.specs.declared.refusal.Refusal.{Refusal}
use Rattle.opening.specs.Problem.{same_bytes, four_words, sizes_of, problem_in, problem_of}
use Rattle.opening.specs.Clauses.{scan_from, literals_in, ends_from}
use Rattle.opening.specs.Opening.{body_of, opened_by}
use Rattle.opening.specs.declared.Sizes.{Sizes}

-- `p cnf ` and what follows
problem : List ℕ → List ℕ
problem rest = 112 ∷ 32 ∷ 99 ∷ 110 ∷ 102 ∷ 32 ∷ rest

-- `p cnf 3 2`, `1 2 0` and `2 3 0`, each a line
listing : List ℕ
listing = problem (51 ∷ 32 ∷ 50 ∷ 10 ∷ 49 ∷ 32 ∷ 50 ∷ 32 ∷ 48 ∷ 10 ∷ 50 ∷ 32 ∷ 51 ∷ 32 ∷ 48 ∷ 10 ∷ [])

-- opened as n variables and m clauses
abbrev sized : ℕ → ℕ → Result Sizes Refusal
sized n m = Ok (record { variables = n; clauses = m })

-- the listing, `p cnf 0 0` and `p cnf 512 0`
opened :
    map (λ text. opened_by text 4 2 2) (listing ∷ problem (48 ∷ 32 ∷ 48 ∷ []) ∷ problem (53 ∷ 49 ∷ 50 ∷ 32 ∷ 48 ∷ []) ∷ [])
    ≡ sized 3 2 ∷ sized 0 0 ∷ sized 512 0 ∷ []
unfolding listing problem all_of is_blank run words_from lines_from is_digit decimal_from digits_of size_of numeral_of code_in after_comments words_in same_bytes four_words sizes_of problem_in problem_of scan_from body_of opened_by
opened = refl

-- the listing's literals and ends
written : literals_in (body_of listing) ∷ ends_from 0 (body_of listing) ∷ [] ≡ (2 ∷ 4 ∷ 4 ∷ 6 ∷ []) ∷ (2 ∷ 4 ∷ []) ∷ []
unfolding listing problem all_of is_blank run words_from lines_from is_digit decimal_from digits_of size_of numeral_of code_in after_comments words_in same_bytes four_words sizes_of problem_in problem_of literals_in ends_from body_of
written = refl

-- a comment line alone; ` p cnf 0 0`; `p cnf 513 0`; `p cnf 513 x`; then `p cnf 1 1` with the line `-0 0`, with `2 0` and with `1`; `p cnf 1 0` with `x`
refused :
    map (λ text. opened_by text 4 2 2)
    ((99 ∷ 32 ∷ 120 ∷ 10 ∷ [])
    ∷ (32 ∷ problem (48 ∷ 32 ∷ 48 ∷ []))
    ∷ problem (53 ∷ 49 ∷ 51 ∷ 32 ∷ 48 ∷ [])
    ∷ problem (53 ∷ 49 ∷ 51 ∷ 32 ∷ 120 ∷ [])
    ∷ problem (49 ∷ 32 ∷ 49 ∷ 10 ∷ 45 ∷ 48 ∷ 32 ∷ 48 ∷ [])
    ∷ problem (49 ∷ 32 ∷ 49 ∷ 10 ∷ 50 ∷ 32 ∷ 48 ∷ [])
    ∷ problem (49 ∷ 32 ∷ 49 ∷ 10 ∷ 49 ∷ [])
    ∷ problem (49 ∷ 32 ∷ 48 ∷ 10 ∷ 120 ∷ [])
    ∷ [])
    ≡ map Err
    (Refusal.NoProblemLine 4
    ∷ Refusal.NoProblemLine 0
    ∷ Refusal.SizeOverLimit 0
    ∷ Refusal.NoProblemLine 0
    ∷ Refusal.NotNumber 10
    ∷ Refusal.LiteralBeyond 10
    ∷ Refusal.ClauseCount 11
    ∷ Refusal.ClauseCount 10
    ∷ [])
unfolding problem all_of is_blank run words_from lines_from is_digit decimal_from digits_of size_of numeral_of code_in after_comments words_in same_bytes four_words sizes_of problem_in problem_of scan_from body_of opened_by
refused = refl

-- `p cnf 1 1`, then comments: `1`, `c 0`, `0`; and `c`, `1 0`, `c`; then what is refused: ` c`; `1 c`; `c`, `2 0`; `c` alone; `1 0`, ` c`
commented :
    map (λ rest. opened_by (problem (49 ∷ 32 ∷ 49 ∷ 10 ∷ rest)) 4 2 2)
    ((49 ∷ 10 ∷ 99 ∷ 32 ∷ 48 ∷ 10 ∷ 48 ∷ [])
    ∷ (99 ∷ 10 ∷ 49 ∷ 32 ∷ 48 ∷ 10 ∷ 99 ∷ [])
    ∷ (32 ∷ 99 ∷ [])
    ∷ (49 ∷ 32 ∷ 99 ∷ [])
    ∷ (99 ∷ 10 ∷ 50 ∷ 32 ∷ 48 ∷ [])
    ∷ (99 ∷ 10 ∷ [])
    ∷ (49 ∷ 32 ∷ 48 ∷ 10 ∷ 32 ∷ 99 ∷ [])
    ∷ [])
    ≡ sized 1 1
    ∷ sized 1 1
    ∷ map Err (Refusal.NotNumber 11 ∷ Refusal.NotNumber 12 ∷ Refusal.LiteralBeyond 12 ∷ Refusal.ClauseCount 12 ∷ Refusal.ClauseCount 15 ∷ [])
unfolding problem all_of is_blank run words_from lines_from is_digit decimal_from digits_of size_of numeral_of code_in after_comments words_in same_bytes four_words sizes_of problem_in problem_of scan_from body_of opened_by
commented = refl

-- the listing where literals and ends are both too short, and where only the ends are
short : map (λ literals. opened_by listing literals 1 2) (3 ∷ 4 ∷ []) ≡ map Err (Refusal.TooShort 4 ∷ Refusal.TooShort 2 ∷ [])
unfolding listing problem all_of is_blank run words_from lines_from is_digit decimal_from digits_of size_of numeral_of code_in after_comments words_in same_bytes four_words sizes_of problem_in problem_of scan_from body_of opened_by
short = refl
