-- Document 02, CR 10, sentence by sentence: "Figures before the making". `figures-ahead` (proofs/Figures.antt) says that it holds. Assumes nothing.
use Rattle.std.specs.Prelude.{◌≡◌, true, cond, List, ◌⊎◌, ◌↔◌, ℕ, ◌+◌, ◌*◌, ◌≤◌, ◌<◌, length, eqb}
use Rattle.lists.specs.Sums.{sum_of}
use Rattle.store.specs.Refusals.{done, refused}
use Rattle.store.specs.Stores.{plain_of}
use Rattle.standing.specs.Keyed.{Keyed, well_formed}
use Rattle.lexleader.specs.Store.{made_of}
use Rattle.render.specs.Text.{header_line}
use Rattle.emit.specs.Emit.{max_header, max_line}
use Rattle.measure.specs.declared.Figures.{Figures}
use Rattle.calls.specs.Calls.{figures_says, header_says, header_leaves, clause_says}
use Rattle.demands.specs.Demand2.{written_by, text_written}

-- the spaces among some bytes
abbrev pub is_space : ℕ → ℕ
is_space byte = cond (eqb byte 32) 1 0

abbrev pub spaces_in : List ℕ → ℕ
spaces_in bytes = sum_of is_space bytes

-- "Each equals what the writing then gives, for every store, header included": what the header call and the clause calls say and write, into buffers that have room
pub record EqualsWriting (s : Keyed) (f : Figures) : Type 0 where
  -- variables and clauses are the N and M of the header
  pub header : (buffer : List ℕ) → max_header ≤ length buffer
      → written_by (header_says s (length buffer)) (header_leaves s buffer) ≡ header_line f.variables f.clauses
  -- there are clauses 1 to that number, and no others
  pub clauses : (q room : ℕ) → (clause_says s q room ≡ refused 13 0) ↔ ((q ≡ 0) ⊎ (f.clauses < q))
  -- "literals (closing zeros not counted)": those of the made formula's clauses; in the text a space stands after each of them, and three in the header
  pub literals : f.literals ≡ sum_of length (made_of s.store)
  pub spaces : (buffer : List ℕ) → max_header ≤ length buffer → (buffers : ℕ → List ℕ) → ((q : ℕ) → max_line ≤ length (buffers q))
      → spaces_in (text_written s buffer buffers) ≡ 3 + f.literals
  -- "bytes of text": the header and all clauses, one after another
  pub bytes : (buffer : List ℕ) → max_header ≤ length buffer → (buffers : ℕ → List ℕ) → ((q : ℕ) → max_line ≤ length (buffers q))
      → f.bytes ≡ length (text_written s buffer buffers)

-- "For callers, with R rows and L plain literals, they are at most n + Rn, m + 6Rn, L + 19Rn, and in bytes 19 plus 7 for each literal and 2 for each clause of
-- the made formula."
pub record Bounded (n m r l : ℕ) (f : Figures) : Type 0 where
  pub variables : f.variables ≤ n + r * n
  pub clauses : f.clauses ≤ m + 6 * (r * n)
  pub literals : f.literals ≤ l + 19 * (r * n)
  pub bytes : f.bytes ≤ 19 + 7 * f.literals + 2 * f.clauses

pub record FiguresAhead (s : Keyed) : Type 0 where
  -- "From an open store, give the made formula's variables, clauses, literals .. and bytes of text": they are given exactly from one that is open and well formed
  pub given : ((f : Figures) × (figures_says s ≡ done f)) ↔ ((s.store.counts.is_open ≡ true) × (well_formed s ≡ true))
  pub equal : (f : Figures) → figures_says s ≡ done f → EqualsWriting s f
  pub bounded : (f : Figures) → figures_says s ≡ done f
      → Bounded s.store.counts.variables s.store.counts.clauses s.store.counts.rows (sum_of length (plain_of s.store)) f
