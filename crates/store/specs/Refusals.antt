-- Refusals by their numbers and places (document 01, "Turned back by what was lent", "Turned back by the store"; 30 and 31 by document 02, CR 3 and CR 8). Assumes nothing.
use Rattle.std.specs.Prelude.{ℕ, List, Result, Ok, Err}
use Rattle.lists.specs.Writing.{overwritten}
use Rattle.store.specs.declared.refusal.Refusal.{Refusal}

-- What a call says in document 01's terms: its values, or the number and the place of a refusal.
pub data Said (Values : Type 0) : Type 0 where
  done : Values → Said Values
  refused : ℕ → ℕ → Said Values

abbrev pub number_of : Refusal → ℕ
number_of (Refusal.NoProblemLine at) = 1
number_of (Refusal.SizeOverLimit at) = 2
number_of (Refusal.NotNumber at) = 3
number_of (Refusal.LiteralBeyond at) = 4
number_of (Refusal.TooManyLiterals at) = 5
number_of (Refusal.ClauseCount at) = 6
number_of (Refusal.NameNotNumber at) = 7
number_of (Refusal.BadName at) = 8
number_of (Refusal.ValueNotNumber at) = 9
number_of (Refusal.BadValue at) = 10
number_of (Refusal.NoSymmetry clause) = 11
number_of Refusal.BadAssignment = 12
number_of Refusal.NoSuchClause = 13
number_of Refusal.NoFigure = 14
number_of Refusal.BadInput = 15
number_of Refusal.NotOpen = 20
number_of Refusal.BadlyFormed = 21
number_of Refusal.RowsFull = 22
number_of (Refusal.TooShort needed) = 23
number_of Refusal.NoRow = 30
number_of Refusal.MovesNothing = 31

-- "Places are byte offsets from 0, unless stated"
abbrev pub place_of : Refusal → ℕ
place_of (Refusal.NoProblemLine at) = at
place_of (Refusal.SizeOverLimit at) = at
place_of (Refusal.NotNumber at) = at
place_of (Refusal.LiteralBeyond at) = at
place_of (Refusal.TooManyLiterals at) = at
place_of (Refusal.ClauseCount at) = at
place_of (Refusal.NameNotNumber at) = at
place_of (Refusal.BadName at) = at
place_of (Refusal.ValueNotNumber at) = at
place_of (Refusal.BadValue at) = at
place_of (Refusal.NoSymmetry clause) = clause
place_of Refusal.BadAssignment = 0
place_of Refusal.NoSuchClause = 0
place_of Refusal.NoFigure = 0
place_of Refusal.BadInput = 0
place_of Refusal.NotOpen = 0
place_of Refusal.BadlyFormed = 0
place_of Refusal.RowsFull = 0
place_of (Refusal.TooShort needed) = needed
place_of Refusal.NoRow = 0
place_of Refusal.MovesNothing = 0

-- what a refusal says
abbrev pub said_refused : {Values : Type 0} → Refusal → Said Values
said_refused r = refused (number_of r) (place_of r)

-- what a result says: the values that the call gives, or its refusal
abbrev pub said : {Values : Type 0} → Result Values Refusal → Said Values
said (Ok values) = done values
said (Err r) = said_refused r

-- what is left by a call: changed where it answers, the same where it refuses
abbrev pub unless_refused : {Values Left : Type 0} → Said Values → Left → Left → Left
unless_refused (done values) changed same = changed
unless_refused (refused number place) changed same = same

-- a lent buffer after a call that writes: what it wrote in front of what was past that
abbrev pub buffer_left : Said ℕ → List ℕ → List ℕ → List ℕ
buffer_left answer front out = unless_refused answer (overwritten front out) out
