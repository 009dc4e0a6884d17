-- Document 01's listing and its starred cases of filling in and descent, by computation on the definitions. Assumes nothing.
use mathlib.Core.Path.{◌≡◌, refl}
use mathlib.Core.Bool.{true, false}
use mathlib.Core.List.{List, [], ◌∷◌}
use Prim.Native.Nat.{ℕ}
use Rattle.lists.specs.Tests.{all_of}
use Rattle.packed.specs.Order.{less}
use Rattle.cycles.specs.Cycles.{sent_to, turns, met_from, cycle_of, is_largest, oddly, turns_odd, left_out}
use Rattle.lexleader.specs.Models.{literal_value}
use Rattle.lexleader.specs.Rows.{moved, lowers, pairs_but, pairs_of}
use Rattle.lexleader.specs.Made.{later_clauses, pair_clauses, row_clauses, auxiliaries, rows_clauses, made, settings_after, row_settings, settings, filled_in}
use Rattle.lexleader.specs.Bounds.{max_auxiliaries, max_made_variables, max_made_clauses}
use Rattle.lexleader.specs.Descent.{step_by, settled, spent, descend_from, descend}

-- document 01's bounds: 64 times 511 auxiliaries, N and M
bounds : max_auxiliaries ∷ max_made_variables ∷ max_made_clauses ∷ [] ≡ 32704 ∷ 33216 ∷ 200320 ∷ []
bounds = refl

-- the listing: (1 2)(2 3), with the row that exchanges 1 and 3. Variable 3 is left out, so one x is left, and one clause is added, without an auxiliary
abbrev exchanged : List (List ℕ)
exchanged = (6 ∷ 4 ∷ 2 ∷ []) ∷ []

listing : made 3 ((2 ∷ 4 ∷ []) ∷ (4 ∷ 6 ∷ []) ∷ []) exchanged ≡ (2 ∷ 4 ∷ []) ∷ (4 ∷ 6 ∷ []) ∷ (3 ∷ 6 ∷ []) ∷ []
unfolding made rows_clauses row_clauses pair_clauses pairs_of pairs_but left_out is_largest turns_odd cycle_of met_from sent_to turns oddly all_of
listing = refl

-- rows that turn signs: 1 to -1, which adds one clause and no auxiliary; then 1 to -1 and 2 to -2, two cycles from which nothing is left out, whose auxiliary is
-- variable 3
signed : made 2 [] ((3 ∷ 4 ∷ []) ∷ (3 ∷ 5 ∷ []) ∷ [])
    ≡ (3 ∷ 3 ∷ [])
    ∷ (3 ∷ 3 ∷ [])
    ∷ (7 ∷ 3 ∷ 3 ∷ [])
    ∷ (7 ∷ 2 ∷ 2 ∷ [])
    ∷ (6 ∷ 2 ∷ 3 ∷ [])
    ∷ (6 ∷ 3 ∷ 2 ∷ [])
    ∷ (7 ∷ 5 ∷ 5 ∷ [])
    ∷ []
unfolding made rows_clauses row_clauses auxiliaries pair_clauses later_clauses pairs_of pairs_but left_out is_largest turns_odd cycle_of met_from sent_to turns oddly all_of
signed = refl

-- 1 to -2 and 2 to 1 turns the sign once, so both are left; 1 to -2 and 2 to -1 twice, so 2 is left out; and of 1 to 2 to 3 to 1 it is 3
turned-once : pairs_of (5 ∷ 2 ∷ []) ≡ record { x = 2; y = 5 } ∷ record { x = 4; y = 2 } ∷ []
unfolding pairs_of pairs_but left_out is_largest turns_odd cycle_of met_from sent_to turns oddly all_of
turned-once = refl

turned-twice : pairs_of (5 ∷ 3 ∷ []) ≡ record { x = 2; y = 5 } ∷ []
unfolding pairs_of pairs_but left_out is_largest turns_odd cycle_of met_from sent_to turns oddly all_of
turned-twice = refl

round-three : pairs_of (4 ∷ 6 ∷ 2 ∷ []) ≡ record { x = 2; y = 4 } ∷ record { x = 4; y = 6 } ∷ []
unfolding pairs_of pairs_but left_out is_largest turns_odd cycle_of met_from sent_to turns oddly all_of
round-three = refl

-- 101 and 011 fill in as themselves
filled-agreeing : filled_in exchanged (true ∷ false ∷ true ∷ []) ≡ true ∷ false ∷ true ∷ []
unfolding filled_in settings row_settings settings_after pairs_of pairs_but left_out is_largest turns_odd cycle_of met_from sent_to turns oddly all_of
filled-agreeing = refl

filled-lower : filled_in exchanged (false ∷ true ∷ true ∷ []) ≡ false ∷ true ∷ true ∷ []
unfolding filled_in settings row_settings settings_after pairs_of pairs_but left_out is_largest turns_odd cycle_of met_from sent_to turns oddly all_of
filled-lower = refl

-- 110 settles at 011 with one move, and is spent at the limit 0, at which 011 is settled
settles : descend 1 exchanged (true ∷ true ∷ false ∷ []) ≡ settled 1 (false ∷ true ∷ true ∷ [])
unfolding descend_from step_by lowers moved less literal_value
settles = refl

spends : descend 0 exchanged (true ∷ true ∷ false ∷ []) ≡ spent 0 (true ∷ true ∷ false ∷ [])
unfolding descend_from step_by lowers moved less literal_value
spends = refl

rests : descend 0 exchanged (false ∷ true ∷ true ∷ []) ≡ settled 0 (false ∷ true ∷ true ∷ [])
unfolding descend_from step_by lowers moved less literal_value
rests = refl

-- with the row 2 3 1: 100 settles at 001, and 010 unmoved
abbrev turned : List (List ℕ)
turned = (4 ∷ 6 ∷ 2 ∷ []) ∷ []

goes-round : descend 5 turned (true ∷ false ∷ false ∷ []) ≡ settled 1 (false ∷ false ∷ true ∷ [])
unfolding descend_from step_by lowers moved less literal_value
goes-round = refl

stays-there : descend 5 turned (false ∷ true ∷ false ∷ []) ≡ settled 0 (false ∷ true ∷ false ∷ [])
unfolding descend_from step_by lowers moved less literal_value
stays-there = refl
