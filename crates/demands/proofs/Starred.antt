-- Document 01's starred cases ("Tried on both edges"), the figures as document 02's CR 4 has them and filling in as CR 9 has it: one table, by computation on what the calls say and leave.
-- Assumes nothing.
use mathlib.Core.Path.{◌≡◌, refl}
use mathlib.Core.List.{List, [], ◌∷◌}
use Prim.Native.Nat.{ℕ, ◌*◌, ◌^◌}
use lib.ListN.{replicate}
use Rattle.lists.specs.Tests.{any_of, all_of, distinct}
use Rattle.lists.specs.Tables.{table}
use Rattle.dimacs.specs.Words.{is_blank, run, words_from}
use Rattle.dimacs.specs.Lines.{lines_from}
use Rattle.dimacs.specs.Numbers.{is_digit, decimal_from, digits_of, size_of, numeral_of}
use Rattle.packed.specs.Words.{bit_in, bit_at, bits_of, binary, word_count, words_of, spare_bits, is_assignment}
use Rattle.packed.specs.Order.{less}
use Rattle.quality.specs.Rounding.{nearest_of}
use Rattle.quality.specs.Efficiency.{has_efficiency, efficiency_of}
use Rattle.store.specs.Literals.{is_literal}
use Rattle.store.specs.Numerals.{code_in}
use Rattle.store.specs.Refusals.{Said, done, refused}
use Rattle.store.specs.Stores.{lent, closed_record, rising, literal_count, rows_of, cut, plain_of, held_rows, is_row, demands, is_formed}
use Rattle.store.specs.Identity.{stays_from}
use Rattle.numbers.specs.Numbers.{numbers}
use Rattle.keys.specs.Keys.{different, total, key_by, right_keys}
use Rattle.standing.specs.Keyed.{Keyed, with_keys, well_formed, standing_of}
use Rattle.comments.specs.Comments.{after_comments, words_in}
use Rattle.opening.specs.Problem.{same_bytes, four_words, sizes_of, problem_in, problem_of}
use Rattle.opening.specs.Clauses.{scan_from, literals_in, ends_from, clauses_from}
use Rattle.opening.specs.Opening.{body_of, formula_of, opened_by}
use Rattle.permutation.specs.Lines.{is_name, not_number, bad_name_after, bad_name, bad_value_after, names_on, values_on}
use Rattle.permutation.specs.Stated.{stated_by, image_among, row_stated}
use Rattle.symmetry.specs.Sets.{within, same_set}
use Rattle.symmetry.specs.Judged.{has_opposites, judged}
use Rattle.symmetry.specs.Symmetry.{image_of, clause_image, has_image, missing_from}
use Rattle.offering.specs.Offering.{if_room, if_symmetry, if_moving, offered_by}
use Rattle.cycles.specs.Cycles.{sent_to, turns, met_from, cycle_of, is_largest, oddly, turns_odd, left_out}
use Rattle.lexleader.specs.Models.{literal_value}
use Rattle.lexleader.specs.Rows.{moved, lowers, pairs_but, pairs_of}
use Rattle.lexleader.specs.Made.{auxiliaries, all_auxiliaries, made_variables, settings_after, row_settings, settings, filled_in}
use Rattle.lexleader.specs.Descent.{step_by, descend_from}
use Rattle.lexleader.specs.Store.{variables_of}
use Rattle.filling.specs.Written.{filled_words}
use Rattle.descent.specs.Words.{Outcome, settled_after, spent_after, descended}
use Rattle.calls.specs.Calls.{Accepted, accepted, open_store, offer_says, offer_store, fill_says, fill_leaves, descend_says, descend_leaves, efficiency_says}

-- the listing's formula, opened: `p cnf 3 2`, `1 2 0`, `2 3 0`
abbrev listing : Keyed
listing =
    open_store (with_keys (lent closed_record (replicate 4 0) (replicate 2 0) (replicate 3 0)) (replicate 2 0))
    (112 ∷ 32 ∷ 99 ∷ 110 ∷ 102 ∷ 32 ∷ 51 ∷ 32 ∷ 50 ∷ 10 ∷ 49 ∷ 32 ∷ 50 ∷ 32 ∷ 48 ∷ 10 ∷ 50 ∷ 32 ∷ 51 ∷ 32 ∷ 48 ∷ 10 ∷ [])

-- the same with its row, `1 3`/`3 1`
abbrev exchanged : Keyed
exchanged = offer_store listing (49 ∷ 32 ∷ 51 ∷ []) (51 ∷ 32 ∷ 49 ∷ [])

-- the formula `1 2 3 0` with the row `2 3 1`
abbrev turned : Keyed
turned =
    offer_store
    (open_store (with_keys (lent closed_record (replicate 3 0) (replicate 1 0) (replicate 3 0)) (replicate 1 0))
    (112 ∷ 32 ∷ 99 ∷ 110 ∷ 102 ∷ 32 ∷ 51 ∷ 32 ∷ 49 ∷ 10 ∷ 49 ∷ 32 ∷ 50 ∷ 32 ∷ 51 ∷ 32 ∷ 48 ∷ 10 ∷ []))
    (49 ∷ 32 ∷ 50 ∷ 32 ∷ 51 ∷ []) (50 ∷ 32 ∷ 51 ∷ 32 ∷ 49 ∷ [])

-- what a case comes to: what an offer or a figure says, what a descent says and leaves, what filling in says and leaves
data Case : Type 0 where
  offered : Said Accepted → Case
  figured : Said ℕ → Case
  came : Said Outcome → List ℕ → Case
  filled : Said ℕ → List ℕ → Case

abbrev descent : Keyed → ℕ → ℕ → Case
descent s a limit = came (descend_says s (a ∷ []) limit) (descend_leaves s (a ∷ []) limit)

abbrev filling : Keyed → ℕ → Case
filling s a = filled (fill_says s (a ∷ []) 1) (fill_leaves s (a ∷ []) (0 ∷ []))

-- The values of three variables stand in the highest bits of a word: 110 is 6 · 2 ^ 61. In the order of the paper: the listing's offers; with its row 110 settles at
-- 011 with one move, is spent at once with limit 0, where 011 settles; 101 and 011 fill in as themselves, one x being left of its row; with the row `2 3 1`, 100 settles at 001 and 010
-- unmoved; the figures, CR 4's exact halves last.
starred :
    offered (offer_says listing (49 ∷ 32 ∷ 51 ∷ []) (51 ∷ 32 ∷ 49 ∷ []))
    ∷ offered (offer_says listing (49 ∷ 32 ∷ 50 ∷ []) (50 ∷ 32 ∷ 49 ∷ []))
    ∷ offered (offer_says listing (49 ∷ 32 ∷ 51 ∷ []) (51 ∷ []))
    ∷ offered (offer_says listing (49 ∷ 32 ∷ 51 ∷ []) (51 ∷ 32 ∷ 51 ∷ []))
    ∷ offered (offer_says listing (49 ∷ 32 ∷ 49 ∷ []) ([]))
    ∷ offered (offer_says listing (52 ∷ []) ([]))
    ∷ descent exchanged (6 * 2 ^ 61) 9
    ∷ descent exchanged (6 * 2 ^ 61) 0
    ∷ descent exchanged (3 * 2 ^ 61) 0
    ∷ filling exchanged (5 * 2 ^ 61)
    ∷ filling exchanged (3 * 2 ^ 61)
    ∷ descent turned (4 * 2 ^ 61) 9
    ∷ descent turned (2 * 2 ^ 61) 9
    ∷ figured (efficiency_says 25 6 8)
    ∷ figured (efficiency_says 29281 302 1024)
    ∷ figured (efficiency_says 20001 1 20000)
    ∷ figured (efficiency_says 20001 1 19998)
    ∷ []
    ≡ offered (done accepted)
    ∷ offered (refused 11 2)
    ∷ offered (refused 10 1)
    ∷ offered (refused 10 2)
    ∷ offered (refused 8 2)
    ∷ offered (refused 8 0)
    ∷ came (done (settled_after 1)) (3 * 2 ^ 61 ∷ [])
    ∷ came (done (spent_after 0)) (6 * 2 ^ 61 ∷ [])
    ∷ came (done (settled_after 0)) (3 * 2 ^ 61 ∷ [])
    ∷ filled (done 1) (5 * 2 ^ 61 ∷ [])
    ∷ filled (done 1) (3 * 2 ^ 61 ∷ [])
    ∷ came (done (settled_after 1)) (1 * 2 ^ 61 ∷ [])
    ∷ came (done (settled_after 0)) (2 * 2 ^ 61 ∷ [])
    ∷ figured (done 8947)
    ∷ figured (done 9751)
    ∷ figured (done 0)
    ∷ figured (done 2)
    ∷ []
unfolding
    open_store offer_says offer_store any_of all_of distinct table is_blank run words_from lines_from is_digit decimal_from digits_of size_of numeral_of is_literal code_in rising literal_count
    rows_of cut plain_of is_name is_row demands is_formed different total key_by numbers right_keys well_formed standing_of after_comments words_in same_bytes four_words sizes_of problem_in problem_of scan_from literals_in ends_from clauses_from body_of formula_of opened_by not_number
    bad_name_after bad_name bad_value_after names_on values_on stated_by image_among row_stated within same_set image_of clause_image has_opposites judged has_image missing_from if_room if_symmetry if_moving stays_from offered_by
    efficiency_says has_efficiency efficiency_of nearest_of descend_says descend_leaves descended descend_from step_by lowers moved less literal_value held_rows bits_of words_of binary
    word_count bit_at bit_in spare_bits is_assignment fill_says fill_leaves filled_words variables_of made_variables all_auxiliaries auxiliaries pairs_of pairs_but left_out is_largest turns_odd cycle_of met_from sent_to turns oddly filled_in settings
    row_settings settings_after
starred = refl
