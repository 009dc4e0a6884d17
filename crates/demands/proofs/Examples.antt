-- What the calls say and leave, by computation: a wrong mark taken back, so that the auxiliary numbers of the row withdrawn are used again (CR 3), and a clause that is always
-- true (CR 7). Assumes nothing.
use mathlib.Core.Path.{◌≡◌, refl}
use mathlib.Core.List.{List, [], ◌∷◌}
use Prim.Native.Nat.{ℕ}
use lib.ListN.{replicate}
use Rattle.lists.specs.Tests.{any_of, all_of, distinct}
use Rattle.lists.specs.Tables.{table}
use Rattle.dimacs.specs.Words.{is_blank, run, words_from}
use Rattle.dimacs.specs.Lines.{lines_from}
use Rattle.dimacs.specs.Numbers.{is_digit, decimal_from, digits_of, size_of, numeral_of}
use Rattle.store.specs.Literals.{is_literal}
use Rattle.store.specs.Numerals.{code_in}
use Rattle.store.specs.Refusals.{Said, done, refused}
use Rattle.store.specs.Stores.{with_row, lent, closed_record, rising, literal_count, rows_of, cut, plain_of, held_rows, is_row, demands, is_formed}
use Rattle.store.specs.Identity.{identity, stays_from}
use Rattle.numbers.specs.Numbers.{numbers}
use Rattle.keys.specs.Keys.{different, total, key_by, right_keys}
use Rattle.standing.specs.Keyed.{Keyed, with_keys, well_formed, standing_of}
use Rattle.comments.specs.Comments.{after_comments, words_in}
use Rattle.opening.specs.Problem.{same_bytes, four_words, sizes_of, problem_in, problem_of}
use Rattle.opening.specs.Clauses.{scan_from, literals_in, ends_from, clauses_from}
use Rattle.opening.specs.Opening.{body_of, formula_of, opened_by}
use Rattle.permutation.specs.Lines.{is_name, not_number, bad_name_after, bad_name, bad_value_after, names_on, values_on}
use Rattle.permutation.specs.Stated.{stated_by, image_among, row_stated}
use Rattle.symmetry.specs.Sets.{within, same_set}
use Rattle.symmetry.specs.Judged.{has_opposites, judged}
use Rattle.symmetry.specs.Symmetry.{image_of, clause_image, has_image, missing_from}
use Rattle.offering.specs.Offering.{if_room, if_symmetry, if_moving, offered_by}
use Rattle.cycles.specs.Cycles.{sent_to, turns, met_from, cycle_of, is_largest, oddly, turns_odd, left_out}
use Rattle.lexleader.specs.Rows.{pairs_but, pairs_of}
use Rattle.lexleader.specs.Made.{first_six, later_clauses, pair_clauses, row_clauses, rows_clauses, made, auxiliaries, all_auxiliaries, made_variables}
use Rattle.lexleader.specs.Store.{made_of, variables_of}
use Rattle.calls.specs.Calls.{Accepted, accepted, TakenBack, taken_back, open_store, offer_says, offer_store, withdraw_says, withdraw_store}
use Rattle.demands.specs.Lists.{Call, offer, withdraw, after}

-- the formula `1 2 3 0`, opened
abbrev opened : Keyed
opened =
    open_store (with_keys (lent closed_record (replicate 3 0) (replicate 1 0) (replicate 4 0)) (replicate 1 0))
    (112 ∷ 32 ∷ 99 ∷ 110 ∷ 102 ∷ 32 ∷ 51 ∷ 32 ∷ 49 ∷ 10 ∷ 49 ∷ 32 ∷ 50 ∷ 32 ∷ 51 ∷ 32 ∷ 48 ∷ 10 ∷ [])

-- the formula `1 -1 2 0`, `1 2 0`, `2 3 0`, opened
abbrev contradictory : Keyed
contradictory =
    open_store (with_keys (lent closed_record (replicate 7 0) (replicate 3 0) (replicate 3 0)) (replicate 3 0))
    (112 ∷ 32 ∷ 99 ∷ 110 ∷ 102 ∷ 32 ∷ 51 ∷ 32 ∷ 51 ∷ 10
    ∷ 49 ∷ 32 ∷ 45 ∷ 49 ∷ 32 ∷ 50 ∷ 32 ∷ 48 ∷ 10
    ∷ 49 ∷ 32 ∷ 50 ∷ 32 ∷ 48 ∷ 10
    ∷ 50 ∷ 32 ∷ 51 ∷ 32 ∷ 48 ∷ 10 ∷ [])

-- `1 2 3`/`2 3 1`, whose x are 1 and 2 and which has the auxiliary 4 where it is the first row, and `1 2 3`/`3 1 2`, which then has 4
abbrev turning : Call
turning = offer (49 ∷ 32 ∷ 50 ∷ 32 ∷ 51 ∷ []) (50 ∷ 32 ∷ 51 ∷ 32 ∷ 49 ∷ [])

abbrev back : Call
back = offer (49 ∷ 32 ∷ 50 ∷ 32 ∷ 51 ∷ []) (51 ∷ 32 ∷ 49 ∷ 32 ∷ 50 ∷ [])

-- what a case comes to: what an offer or a withdrawal says, the rows held with the images lent and N, or the made formula
data Case : Type 0 where
  offering : Said Accepted → Case
  withdrawing : Said TakenBack → Case
  holding : List (List ℕ) → List ℕ → ℕ → Case
  making : List (List ℕ) → Case

abbrev saying : Keyed → Case
saying s = withdrawing (withdraw_says s)

abbrev held : Keyed → Case
held s = holding (held_rows s.store) s.store.images (variables_of s.store)

-- what is said of `1 3` with these values, offered to that store
abbrev valued : List ℕ → Case
valued values = offering (offer_says opened (49 ∷ 32 ∷ 51 ∷ []) values)

-- that store lent with a row that moves nothing
abbrev idle : Keyed
idle = with_keys (with_row opened.store (identity 3)) opened.keys

-- With no row a withdrawal is 30. The turning row is held, and N is 4; taken back, its entries stay and N is 3; a second withdrawal is refused and changes
-- nothing. The row that turns back, offered then, has the auxiliary 4 of the row taken back: its clauses are the table's first six, for 4 and the pairs 1, 3 and 2, 1.
-- Over `1 -1 2` the exchange of 1 and 3 is accepted, which sends that clause to none of the formula's and was refused for it before CR 7; the exchange of 1 and 2 is refused at
-- clause 3 of all three, as the image of `2 3` is missing; and all three are in the made formula.
-- `1 3`/`1 3` moves nothing and is 31; `1 3`/`1 1` is 10 before it, `1 3`/`1 -3` moves 3 and is 11, `1 3`/`3 1` has no value that equals its name. A lent row that moves nothing is held and
-- adds nothing, neither a variable nor a clause, and can be taken back.
computed :
    saying opened
    ∷ held (after opened (turning ∷ []))
    ∷ saying (after opened (turning ∷ []))
    ∷ held (after opened (turning ∷ withdraw ∷ []))
    ∷ saying (after opened (turning ∷ withdraw ∷ []))
    ∷ held (after opened (turning ∷ withdraw ∷ withdraw ∷ back ∷ []))
    ∷ making (made_of (after opened (turning ∷ withdraw ∷ withdraw ∷ back ∷ [])).store)
    ∷ offering (offer_says contradictory (49 ∷ 32 ∷ 51 ∷ []) (51 ∷ 32 ∷ 49 ∷ []))
    ∷ offering (offer_says contradictory (49 ∷ 32 ∷ 50 ∷ []) (50 ∷ 32 ∷ 49 ∷ []))
    ∷ making (made_of contradictory.store)
    ∷ valued (49 ∷ 32 ∷ 51 ∷ [])
    ∷ valued (49 ∷ 32 ∷ 49 ∷ [])
    ∷ valued (49 ∷ 32 ∷ 45 ∷ 51 ∷ [])
    ∷ valued (51 ∷ 32 ∷ 49 ∷ [])
    ∷ held idle
    ∷ making (made_of idle.store)
    ∷ saying idle
    ∷ []
    ≡ withdrawing (refused 30 0)
    ∷ holding ((4 ∷ 6 ∷ 2 ∷ []) ∷ []) (4 ∷ 6 ∷ 2 ∷ 0 ∷ []) 4
    ∷ withdrawing (done taken_back)
    ∷ holding [] (4 ∷ 6 ∷ 2 ∷ 0 ∷ []) 3
    ∷ withdrawing (refused 30 0)
    ∷ holding ((6 ∷ 2 ∷ 4 ∷ []) ∷ []) (6 ∷ 2 ∷ 4 ∷ 0 ∷ []) 4
    ∷ making ((2 ∷ 4 ∷ 6 ∷ []) ∷ first_six 4 (record { x = 2; y = 6 }) (record { x = 4; y = 2 }))
    ∷ offering (done accepted)
    ∷ offering (refused 11 3)
    ∷ making ((2 ∷ 3 ∷ 4 ∷ []) ∷ (2 ∷ 4 ∷ []) ∷ (4 ∷ 6 ∷ []) ∷ [])
    ∷ offering (refused 31 0)
    ∷ offering (refused 10 2)
    ∷ offering (refused 11 1)
    ∷ offering (done accepted)
    ∷ holding ((2 ∷ 4 ∷ 6 ∷ []) ∷ []) (2 ∷ 4 ∷ 6 ∷ 0 ∷ []) 3
    ∷ making ((2 ∷ 4 ∷ 6 ∷ []) ∷ [])
    ∷ withdrawing (done taken_back)
    ∷ []
unfolding
    open_store offer_says offer_store withdraw_says withdraw_store after any_of all_of distinct table is_blank run words_from lines_from is_digit decimal_from digits_of size_of numeral_of
    is_literal code_in rising literal_count rows_of cut plain_of held_rows is_name is_row demands is_formed different total key_by numbers right_keys well_formed standing_of after_comments words_in same_bytes four_words sizes_of problem_in
    problem_of scan_from literals_in ends_from clauses_from body_of formula_of opened_by not_number bad_name_after bad_name bad_value_after names_on values_on stated_by image_among row_stated within same_set
    image_of clause_image has_opposites judged has_image missing_from if_room if_symmetry if_moving stays_from offered_by pairs_but pairs_of left_out is_largest turns_odd cycle_of met_from sent_to turns oddly later_clauses pair_clauses row_clauses rows_clauses made auxiliaries all_auxiliaries
    made_variables made_of variables_of
computed = refl
