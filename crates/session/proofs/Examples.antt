-- Inputs at the edges of document 01's, by computation on the definitions. Assumes nothing.
use mathlib.Core.Path.{◌≡◌, refl}
use mathlib.Core.Bool.{true}
use mathlib.Core.List.{List, [], ◌∷◌, ◌++◌, map}
use Prim.Native.Nat.{ℕ}
use Rattle.lists.specs.Tests.{any_of, all_of}
use Rattle.lists.specs.Tables.{table}
use Rattle.dimacs.specs.Words.{is_blank, run, words_from}
use Rattle.dimacs.specs.Lines.{lines_from, lines_at}
use Rattle.dimacs.specs.Numbers.{is_digit, decimal_from, digits_of, size_of, numeral_of}
use Rattle.store.specs.Literals.{is_literal}
use Rattle.store.specs.Numerals.{code_in}
use Rattle.store.specs.Refusals.{done, refused}
use Rattle.store.specs.Stores.{lent, closed_record, rising, literal_count, rows_of, cut, plain_of, demands, is_formed}
use Rattle.store.specs.Identity.{stays_from}
use Rattle.keys.specs.Keys.{right_keys}
use Rattle.standing.specs.Keyed.{Keyed, with_keys, well_formed, standing_of}
use Rattle.comments.specs.Comments.{after_comments, words_in}
use Rattle.opening.specs.Problem.{same_bytes, four_words, sizes_of, problem_in, problem_of}
use Rattle.opening.specs.Clauses.{scan_from, literals_in, ends_from, clauses_from}
use Rattle.opening.specs.Opening.{body_of, formula_of, opened_by}
use Rattle.permutation.specs.Lines.{is_name, not_number, bad_name_after, bad_name, bad_value_after, names_on, values_on}
use Rattle.permutation.specs.Stated.{stated_by, image_among, row_stated}
use Rattle.symmetry.specs.Symmetry.{missing_from}
use Rattle.offering.specs.Offering.{if_room, if_symmetry, if_moving, offered_by}
use Rattle.calls.specs.Calls.{accepted, open_says, open_store, offer_says, offer_store}
use Rattle.session.specs.Input.{from_divider}
use Rattle.session.specs.Session.{ended, offer_all, session_of}

-- a store with room for one image alone: closed, and open with so many rows
closed : Keyed
closed = with_keys (lent closed_record [] [] (0 ∷ [])) []

opened : ℕ → List ℕ → Keyed
opened rows images = with_keys (lent (record { variables = 1; clauses = 0; rows = rows; is_open = true }) [] [] images) []

-- the line `p cnf 1 0`
problem : List ℕ
problem = 112 ∷ 32 ∷ 99 ∷ 110 ∷ 102 ∷ 32 ∷ 49 ∷ 32 ∷ 48 ∷ 10 ∷ []

-- the lines `%%` and `%`: the second is the divider
divider : from_divider (lines_at (37 ∷ 37 ∷ 10 ∷ 37 ∷ []) 0) ≡ record { place = 3; bytes = 37 ∷ [] } ∷ []
unfolding run lines_from same_bytes from_divider
divider = refl

-- `p cnf 1 0` without a `%` line, and `%` alone, before which stands no problem line
turned-back : map (λ (input : List ℕ). session_of closed input) (problem ∷ (37 ∷ []) ∷ []) ≡ ended (refused 15 0) closed ∷ ended (refused 1 0) closed ∷ []
unfolding problem run lines_from after_comments same_bytes problem_in problem_of opened_by open_says open_store from_divider session_of
turned-back = refl

-- `p cnf 1 0`, `%`, and then: `x`, a names line that is not read; two empty lines, of which the second is offered; `1` and
-- `-1`, an accepted row; `1` and `1`, which move nothing
offered :
    map (λ (lines : List ℕ). session_of closed (problem ++ (37 ∷ 10 ∷ lines))) ((120 ∷ []) ∷ (10 ∷ 10 ∷ []) ∷ (49 ∷ 10 ∷ 45 ∷ 49 ∷ []) ∷ (49 ∷ 10 ∷ 49 ∷ []) ∷ [])
    ≡ ended (done accepted) (opened 0 (0 ∷ []))
    ∷ ended (refused 8 0) (opened 0 (0 ∷ []))
    ∷ ended (done accepted) (opened 1 (3 ∷ []))
    ∷ ended (refused 31 0) (opened 0 (0 ∷ []))
    ∷ []
unfolding
    closed opened problem any_of all_of table is_blank run words_from lines_from is_digit decimal_from digits_of size_of numeral_of is_literal code_in rising
    literal_count rows_of cut plain_of is_name demands is_formed right_keys well_formed standing_of after_comments words_in same_bytes four_words sizes_of problem_in problem_of scan_from
    literals_in ends_from clauses_from body_of formula_of opened_by not_number bad_name_after bad_name bad_value_after names_on values_on stated_by image_among row_stated missing_from if_room
    if_symmetry if_moving stays_from offered_by open_says open_store offer_says offer_store from_divider offer_all session_of
offered = refl
