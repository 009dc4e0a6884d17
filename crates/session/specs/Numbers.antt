-- Which refusals the program can print (document 01, "Turned back by the store", and 15: "input over 65,536 bytes, or no `%` line; place 0").
-- Assumes nothing.
use Rattle.std.specs.Prelude.{◌≡◌, List, [], ◌⊎◌, ℕ, ◌*◌, ◌≤◌, ◌<◌, length}
use Rattle.dimacs.specs.Lines.{lines_at}
use Rattle.store.specs.Stores.{max_variables, max_clauses, max_literals, max_rows}
use Rattle.standing.specs.Keyed.{Keyed}
use Rattle.session.specs.Input.{max_input, from_divider}

-- slices as long as the limits, so that nothing within these is too long for them
pub record Ample (s : Keyed) : Type 0 where
  pub literals : max_literals ≤ length s.store.literals
  pub ends : max_clauses ≤ length s.store.ends
  pub keys : max_clauses ≤ length s.keys
  pub images : max_rows * max_variables ≤ length s.store.images

-- not 20 (not open), 21 (badly formed) or 23 (a slice too short): what only a caller of the library can meet
pub record FromInput (number : ℕ) : Type 0 where
  pub opened : number ≡ 20 → ⊥
  pub formed : number ≡ 21 → ⊥
  pub roomy : number ≡ 23 → ⊥

-- the reason of 15
abbrev pub BadInput : List ℕ → Type 0
BadInput input = (max_input < length input) ⊎ (from_divider (lines_at input 0) ≡ [])
