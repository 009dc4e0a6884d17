-- What the program does with an input before it prints (document 01, "Quality figure and program"): it opens the formula text and offers all value lines
-- in turn, up to the first refusal. Assumes nothing.
use Rattle.std.specs.Prelude.{ℕ, cond, List, [], ◌∷◌, length, take, ltb}
use Rattle.dimacs.specs.Words.{Piece}
use Rattle.dimacs.specs.Lines.{lines_at}
use Rattle.store.specs.Refusals.{Said, done, refused}
use Rattle.standing.specs.Keyed.{Keyed}
use Rattle.calls.specs.Calls.{Accepted, accepted, Dimensions, open_says, open_store, offer_says, offer_store}
use Rattle.session.specs.Input.{max_input, from_divider}

-- how a session ends: all accepted or the first refusal, and the store as the last call left it
pub record Ended : Type 0 where
  pub said : Said Accepted
  pub store : Keyed

abbrev pub ended : Said Accepted → Keyed → Ended
ended said s = record { said = said; store = s }

-- "It offers all": each value line with the same names, "at the first refusal" no further
unfoldable pub offer_all : Keyed → List ℕ → List Piece → Ended
offer_all s names [] = ended (done accepted) s
offer_all s names (values ∷ lines) =
    elim (offer_says s names values.bytes) [
      | done a ↦ offer_all (offer_store s names values.bytes) names lines
      | refused number place ↦ ended (refused number place) (offer_store s names values.bytes)
    ]

-- the names line and the value lines: "without value lines nothing is offered", so the names are not even read
abbrev pub offer_lines : Keyed → List Piece → Ended
offer_lines s [] = ended (done accepted) s
offer_lines s (names ∷ values) = offer_all s names.bytes values

abbrev pub if_opened : Said Dimensions → Keyed → List Piece → Ended
if_opened (done sizes) s lines = offer_lines s lines
if_opened (refused number place) s lines = ended (refused number place) s

-- the formula text is all before the `%` line; without such a line, 15
abbrev pub divided : Keyed → List ℕ → List Piece → Ended
divided s input [] = ended (refused 15 0) s
divided s input (divider ∷ lines) = let text = take divider.place input in if_opened (open_says s text) (open_store s text) lines

-- "15. Program only, tried before all others: input over 65,536 bytes, or no `%` line; place 0."
unfoldable pub session_of : Keyed → List ℕ → Ended
session_of s input = cond (ltb max_input (length input)) (ended (refused 15 0) s) (divided s input (from_divider (lines_at input 0)))
