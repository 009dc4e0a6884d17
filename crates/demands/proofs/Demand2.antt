-- Demand 2 holds for every store: acceptance is that of Acceptance.antt, and the lines that the calls write, one after another, are the text of the made
-- formula. Assumes nothing.
use Rattle.std.proofs.Common.{Ok}
use mathlib.Core.Path.{◌≡◌, refl, ◌∙◌}
use mathlib.Core.Bool.{true}
use mathlib.Core.List.{List, [], ◌++◌}
use Prim.Native.Nat.{ℕ, zero, suc, ◌+◌, ◌-◌, ◌≤◌}
use native.Mathlib.Omega.{arith}
use borrow.Author.Tests.{le-leb, le-ltb, ne_eqb}
use lib.ListN.{length, get_or, drop}
use lib.Seq.{take-append_seam}
use Rattle.store.specs.Refusals.{buffer_left}
use Rattle.store.specs.Stores.{plain_of, held_rows}
use Rattle.standing.specs.Keyed.{Keyed, well_formed, standing_of}
use Rattle.standing.proofs.StandingLaws.{ready_of, its-form}
use Rattle.symmetry.proofs.SetLaws.{at_mem}
use Rattle.permutation.proofs.Theorem.{row-at-name, row-elsewhere}
use Rattle.lexleader.specs.Made.{rows_clauses, made}
use Rattle.render.specs.Text.{header_line}
use Rattle.lexleader.specs.Store.{made_of, variables_of, clauses_of}
use Rattle.emit.specs.Emit.{header_of, line_of, lines_of, text_of, max_header, max_line, written_if, header_by, clause_by}
use Rattle.emit.proofs.Bounds.{header-most, line-longest}
use Rattle.emit.proofs.Text.{lines_from, text-is-plain-then-documented}
use Rattle.calls.specs.Calls.{header_says, header_leaves, clause_says, clause_leaves}
use Rattle.demands.specs.Demand2.{written_by, clauses_written, text_written, Demand2}
use Rattle.demands.proofs.Acceptance.{permitted, accepted-iff, accepted-held}

-- ---- what the calls write

line-written : (line buffer : List ℕ) → length line ≤ length buffer
    → written_by (written_if line (length buffer)) (buffer_left (written_if line (length buffer)) line buffer) ≡ line
unfolding written_if
line-written line buffer h = rw (le-leb (length line) (length buffer) h) (take-append_seam line (drop (length line) buffer))

-- every line fits into a buffer of the longest
line-fits : (s : Keyed) → well_formed s ≡ true → (q : ℕ) → 1 ≤ q → q ≤ clauses_of s.store → length (line_of s.store q) ≤ max_line
unfolding line_of clauses_of
line-fits s formed q low high = line-longest s.store (its-form s formed) (get_or (made_of s.store) (q - 1) []) (at_mem [] (made_of s.store) (q - 1) (omega arith))

module _ (s : Keyed) (ready : standing_of s ≡ Ok s.store) where
  pub header-written : (buffer : List ℕ) → length (header_of s.store) ≤ length buffer → written_by (header_says s (length buffer)) (header_leaves s buffer) ≡ header_of s.store
  unfolding header_says header_leaves header_by
  header-written buffer h = rw ready (line-written (header_of s.store) buffer h)

  clause-written : (q : ℕ) → 1 ≤ q → q ≤ clauses_of s.store → (buffer : List ℕ) → length (line_of s.store q) ≤ length buffer
      → written_by (clause_says s q (length buffer)) (clause_leaves s q buffer) ≡ line_of s.store q
  unfolding clause_says clause_leaves clause_by
  clause-written q low high buffer h =
      rw (ready, ne_eqb q 0 (λ e. omega arith), le-ltb (clauses_of s.store) q high) (line-written (line_of s.store q) buffer h)

  clauses-written : (buffers : ℕ → List ℕ) → ((q : ℕ) → 1 ≤ q → q ≤ clauses_of s.store → length (line_of s.store q) ≤ length (buffers q)) → (q count : ℕ) → 1 ≤ q → q + count ≤ clauses_of s.store + 1
      → clauses_written s buffers q count ≡ lines_from s.store q count
  unfolding clauses_written lines_from
  clauses-written buffers room q zero low high = refl
  clauses-written buffers room q (suc count) low high =
      rw (clause-written q low (omega arith) (buffers q) (room q low (omega arith)), clauses-written buffers room (q + 1) count (omega arith) (omega arith))

  pub text-written : well_formed s ≡ true → (buffer : List ℕ) → max_header ≤ length buffer → (buffers : ℕ → List ℕ) → ((q : ℕ) → max_line ≤ length (buffers q))
      → text_written s buffer buffers ≡ text_of s.store
  unfolding text_written
  text-written formed buffer room buffers rooms =
      let fits : (q : ℕ) → 1 ≤ q → q ≤ clauses_of s.store → length (line_of s.store q) ≤ length (buffers q) = λ q low high. omega (arith, line-fits s formed q low high, rooms q) in
      rw (header-written buffer (omega (arith, header-most s.store (its-form s formed))), clauses-written buffers fits 1 (clauses_of s.store) (omega arith) (omega arith))
      (text-is-plain-then-documented s.store)

text-is : (s : Keyed) → text_of s.store ≡ header_line (variables_of s.store) (clauses_of s.store) ++ lines_of (plain_of s.store ++ rows_clauses (s.store.counts.variables + 1) (held_rows s.store))
unfolding text_of header_of made_of made
text-is s = refl

-- ---- the theorem

pub demand-2 : (s : Keyed) → Demand2 s
demand-2 s = record {
  accepts = accepted-iff s;
  holds = λ names values said. accepted-held s names values said;
  named = λ names values said k h. row-at-name s.store.counts.variables names values (permitted s names values said).states.stated k h;
  others = λ names values said i low high e. row-elsewhere s.store.counts.variables names values i low high e;
  text = λ opened formed buffer room buffers rooms. text-written s (ready_of s opened formed) formed buffer room buffers rooms ∙ text-is s;
}
