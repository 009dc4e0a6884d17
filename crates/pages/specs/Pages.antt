-- The made formula written page after page: a buffer filled with the lines of as many clauses as fit, from a cursor on. Assumes nothing.
use Rattle.std.specs.Prelude.{◌≡◌, ℕ, ◌+◌, ◌≤◌, ◌<◌, cond, List, [], ◌∷◌, length, leb, Option, Some, None}
use Rattle.store.specs.declared.record.Record.{Record}
use Rattle.render.specs.Text.{clause_line, written_at}
use Rattle.emit.specs.Emit.{max_line}
use Rattle.cursor.specs.Cursors.{remaining, CursorStands}
use Rattle.pages.specs.declared.Page.{Page}

-- a buffer afterwards, the place after what was written, and the clauses that did not fit
pub record FilledPage : Type 0 where
  pub buffer : List ℕ
  pub end : ℕ
  pub rest : List (List ℕ)

-- the lines of clauses from a place of a buffer on, as many as fit
unfoldable pub fill_from : ℕ → List (List ℕ) → List ℕ → FilledPage
fill_from at [] out = record { buffer = out; end = at; rest = [] }
fill_from at (clause ∷ clauses) out =
    cond (leb (at + length (clause_line clause)) (length out))
    (fill_from (at + length (clause_line clause)) clauses (written_at at (clause_line clause) out))
    (record { buffer = out; end = at; rest = clause ∷ clauses })

-- no line of the made formula is longer
abbrev pub longest : ℕ
longest = max_line

-- A line added to a page: the page with it, and the buffer after it.
pub record LineAdded (plain : List (List ℕ)) (counts : Record) (images : List ℕ) (page : Page) (out : List ℕ) (longer : Page) (after : List ℕ) : Type 0 where
  pub same : fill_from longer.bytes (remaining plain counts images longer.cursor) after ≡ fill_from page.bytes (remaining plain counts images page.cursor) out
  pub stands : CursorStands counts images longer.cursor
  pub onward : page.bytes < longer.bytes
  pub within : longer.bytes ≤ length after
  pub size : length after ≡ length out

-- A page that gets no more: nothing is left, or the next line does not fit.
pub record PageFull (plain : List (List ℕ)) (counts : Record) (images : List ℕ) (page : Page) (out after : List ℕ) : Type 0 where
  pub stopped : fill_from page.bytes (remaining plain counts images page.cursor) out ≡ record { buffer = after; end = page.bytes; rest = remaining plain counts images page.cursor }
  pub moves : page.bytes + longest ≤ length out → remaining plain counts images page.cursor ≡ []

-- One step of filling: a line is added, or nothing where none is left or the next does not fit.
abbrev pub PageStep : List (List ℕ) → Record → List ℕ → Page → List ℕ → Option Page → List ℕ → Type 0
PageStep plain counts images page out None after = PageFull plain counts images page out after
PageStep plain counts images page out (Some longer) after = LineAdded plain counts images page out longer after

-- A line put at a place of a buffer, if it fits, with the place after it.
abbrev pub LinePut : List ℕ → ℕ → List ℕ → Option ℕ → List ℕ → Type 0
LinePut line at out None after = (length out < at + length line) × (after ≡ out)
LinePut line at out (Some end) after = (at + length line ≤ length out) × (end ≡ at + length line) × (after ≡ written_at at line out)
