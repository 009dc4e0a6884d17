-- Figures by computation on the definitions (document 02, CR 10). Assumes nothing.
use mathlib.Core.Path.{◌≡◌, refl}
use mathlib.Core.Bool.{true}
use mathlib.Core.List.{List, [], ◌∷◌, map}
use Prim.Native.Nat.{ℕ}
use lib.ListN.{length}
use Rattle.lists.specs.Tests.{all_of}
use Rattle.lists.specs.Sums.{sum_of}
use Rattle.store.specs.Stores.{lent, rows_of, cut, plain_of, held_rows}
use Rattle.cycles.specs.Cycles.{sent_to, turns, met_from, cycle_of, is_largest, oddly, turns_odd, left_out}
use Rattle.lexleader.specs.Rows.{pairs_but, pairs_of}
use Rattle.lexleader.specs.Made.{later_clauses, pair_clauses, row_clauses, auxiliaries, rows_clauses, all_auxiliaries, made, made_variables}
use Rattle.lexleader.specs.Store.{made_of, variables_of, clauses_of}
use Rattle.render.specs.Text.{decimal_in, decimal, literal_text, clause_line, two_numbers, header_line}
use Rattle.emit.specs.Emit.{header_of, lines_of, text_of}
use Rattle.measure.specs.Figures.{figures_of, max_made_literals, max_made_bytes}

-- the bounds that include/symbreak.h gives
bounds : max_made_literals ∷ max_made_bytes ∷ [] ≡ 633536 ∷ 4835411 ∷ []
bounds = refl

-- document 01's listing with its row: `p cnf 3 3`, `1 2 0`, `2 3 0`, `-1 3 0`
listing :
    figures_of (lent (record { variables = 3; clauses = 2; rows = 1; is_open = true }) (2 ∷ 4 ∷ 4 ∷ 6 ∷ []) (2 ∷ 4 ∷ []) (6 ∷ 4 ∷ 2 ∷ []))
    ≡ record { variables = 3; clauses = 3; literals = 6; bytes = 29 }
unfolding figures_of sum_of text_of header_of lines_of variables_of clauses_of made_of plain_of held_rows cut rows_of made made_variables all_auxiliaries auxiliaries rows_clauses row_clauses pair_clauses pairs_of pairs_but left_out is_largest turns_odd cycle_of met_from sent_to turns oddly all_of header_line two_numbers clause_line literal_text decimal decimal_in
listing = refl

-- "An auxiliary longer by one digit must show in the bytes." 1, 2 and 3, each sent to its negation, with the auxiliaries 8 and 9, 9 and 10, 10 and 11: the second
-- one stands six times, and the first eight times
abbrev negations : List ℕ
negations = 3 ∷ 5 ∷ 7 ∷ []

longer : map (λ (e : ℕ). length (lines_of (row_clauses e negations))) (8 ∷ 9 ∷ 10 ∷ []) ≡ 119 ∷ 125 ∷ 133 ∷ []
unfolding lines_of row_clauses later_clauses pair_clauses pairs_of pairs_but left_out is_largest turns_odd cycle_of met_from sent_to turns oddly all_of clause_line literal_text decimal decimal_in
longer = refl
