-- What the program prints (document 01, "Quality figure and program"): "the made formula, or only the line `refused NUMBER WHERE` at the first refusal,
-- WHERE being its place". It is printed in pages, and a stage says what is still to be printed. Assumes nothing.
use Rattle.std.specs.Prelude.{◌≡◌, ℕ, ◌+◌, ◌*◌, ◌≤◌, true, List, [], ◌++◌, length, take, drop, replicate}
use Rattle.store.specs.Refusals.{Said, done, refused, number_of, place_of}
use Rattle.store.specs.Stores.{Store, lent, closed_record, is_formed, max_variables, max_clauses, max_literals, max_rows}
use Rattle.standing.specs.Keyed.{Keyed, with_keys}
use Rattle.render.specs.Text.{refusal_line}
use Rattle.lexleader.specs.Bounds.{max_made_clauses}
use Rattle.emit.specs.Emit.{lines_of, text_of, max_header, max_line}
use Rattle.cursor.specs.Cursors.{remaining_of, CursorStands}
use Rattle.calls.specs.Calls.{Accepted}
use Rattle.session.specs.Session.{session_of}
use Rattle.program.specs.declared.Stage.{Stage}

abbrev pub printed_by : Said Accepted → Store → List ℕ
printed_by (done a) s = text_of s
printed_by (refused number place) s = refusal_line number place

-- the program's output for an input, where it works in a store s: its own slices, and a closed record
unfoldable pub output_of : Keyed → List ℕ → List ℕ
output_of s input = printed_by (session_of s input).said (session_of s input).store.store

-- the store that the program works in: a new record, and slices of zeros as long as the limits
abbrev pub fresh_store : Keyed
fresh_store =
    with_keys (lent closed_record (replicate max_literals 0) (replicate max_clauses 0) (replicate (max_rows * max_variables) 0)) (replicate max_clauses 0)

-- no output is longer: a header, and as many of the longest lines as a made formula has clauses. It is generous: that there is a bound is what matters.
abbrev pub max_output : ℕ
max_output = max_header + max_made_clauses * max_line

-- what is still to be printed
unfoldable pub left_to_print : Stage → Store → List ℕ
left_to_print (Stage.Refused r) s = refusal_line (number_of r) (place_of r)
left_to_print Stage.Header s = text_of s
left_to_print (Stage.Clauses c) s = lines_of (remaining_of s c)
left_to_print Stage.Over s = []

-- a stage in a store
abbrev pub StageStands : Stage → Store → Type 0
StageStands (Stage.Refused r) s = Unit {0}
StageStands Stage.Header s = is_formed s ≡ true
StageStands (Stage.Clauses c) s = (is_formed s ≡ true) × CursorStands s.counts s.images c
StageStands Stage.Over s = Unit {0}

-- One page: the bytes put at the start of the buffer are what is printed of what was left, the bytes past them stay, and a page without bytes is the last.
pub record PageStep (s : Store) (stage : Stage) (out : List ℕ) (next : Stage) (bytes : ℕ) (after : List ℕ) : Type 0 where
  pub prints : left_to_print stage s ≡ take bytes after ++ left_to_print next s
  pub stays : drop bytes after ≡ drop bytes out
  pub within : bytes ≤ length out
  pub size : length after ≡ length out
  pub last : bytes ≡ 0 → left_to_print stage s ≡ []
  pub stands : StageStands next s

-- bytes are the part of a text that starts at a place
pub record PartAt (text : List ℕ) (at : ℕ) (bytes : List ℕ) : Type 0 where
  pub here : take (length bytes) (drop at text) ≡ bytes
  pub within : at + length bytes ≤ length text
