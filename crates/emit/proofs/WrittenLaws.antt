-- What writing a line says and leaves: one law for each way out. Assumes nothing.
use mathlib.Core.Path.{◌≡◌, refl, sym, ap, ap₂, ◌∙◌}
use mathlib.Core.Bool.{true}
use mathlib.Core.List.{List, [], ◌++◌}
use mathlib.Core.Logic.{◌⊎◌, inl, inr}
use Prim.Native.Nat.{ℕ, ◌+◌, ◌-◌, ◌≤◌, ◌<◌}
use native.Mathlib.Nat.{zero-add}
use native.Mathlib.Omega.{arith}
use borrow.Author.Tests.{eq-eqb, ne_eqb, le-leb, lt-leb, lt-ltb, le-ltb}
use lib.ListN.{length, get_or, drop}
use lib.Seq.{length-slice}
use Rattle.lists.proofs.Cases.{lt-or-le}
use Rattle.std.proofs.Common.{Result, Ok, Err}
use Rattle.store.specs.Refusals.{said, buffer_left, refused}
use Rattle.store.specs.Stores.{Store, literal_count, clause_at, FormedClauses, max_literals, is_formed}
use Rattle.store.specs.declared.refusal.Refusal.{Refusal}
use Rattle.lexleader.specs.Store.{clauses_of}
use Rattle.lexleader.specs.Counted.{Counted}
use Rattle.lexleader.specs.declared.counting.Totals.{Totals}
use Rattle.lexleader.proofs.MadeLaws.{added_of, clauses-are, made-added, counted-variables, counted-clauses}
use Rattle.render.specs.Text.{clause_line, header_line, written_at}
use Rattle.emit.specs.Emit.{header_of, line_of, written_if, clause_by, added_by}

-- a line written at the start of a buffer
pub at-start : (line out : List ℕ) → written_at 0 line out ≡ line ++ drop (length line) out
unfolding written_at
at-start line out = ap (λ (k : ℕ). line ++ drop k out) (zero-add (length line))

-- what a function that measures, tests and writes a line says and leaves
module _ (line out : List ℕ) where
  abbrev pub Writes : Result ℕ Refusal → List ℕ → Type 0
  Writes answer after = (said answer ≡ written_if line (length out)) × (after ≡ buffer_left (said answer) line out)

  pub left_alone : (needed : ℕ) → needed ≡ length line → length out < needed → Writes (Err (Refusal.TooShort needed)) out
  unfolding written_if
  left_alone needed is h = (rw (is, lt-leb (length line) (length out) (rw is at h)), refl)

  pub put-there : (after : List ℕ) (needed : ℕ) → needed ≡ length line → needed ≤ length out → after ≡ written_at 0 line out → Writes (Ok needed) after
  unfolding written_if
  put-there after needed is h e = (rw (is, le-leb (length line) (length out) (rw is at h)), e ∙ at-start line out)

-- another name for the line
pub same_line : {line other : List ℕ} → line ≡ other → (out : List ℕ) (answer : Result ℕ Refusal) (after : List ℕ) → Writes line out answer after → Writes other out answer after
same_line e out answer after w = rw e at w

-- the header of the totals that were counted
pub header-there : (s : Store) → is_formed s ≡ true → {total : Totals} → Counted s.counts s.images total → header_line total.variables total.clauses ≡ header_of s
unfolding header_of
header-there s well c = ap₂ header_line (counted-variables s c) (counted-clauses s well c)

-- a stored clause has no more literals than a store
pub clause-short : (m : ℕ) (literals ends : List ℕ) → FormedClauses m literals ends → (c : ℕ) → c < m → length (clause_at literals ends c) ≤ max_literals
clause-short m literals ends f c h =
    omega (arith, length-slice (literal_count c ends) (literal_count (c + 1) ends) literals (f.within c h), f.literals-fit c h)

module _ (s : Store) (q room : ℕ) where
  pub no-clause-zero : q ≡ 0 → refused 13 0 ≡ clause_by s q room
  unfolding clause_by
  no-clause-zero e = rw (eq-eqb q 0 e)

  pub no-clause-above : (q ≡ 0 → ⊥) → clauses_of s < q → refused 13 0 ≡ clause_by s q room
  unfolding clause_by
  no-clause-above n h = rw (ne_eqb q 0 n, lt-ltb (clauses_of s) q h)

  pub clause-there : (q ≡ 0 → ⊥) → q ≤ clauses_of s → clause_by s q room ≡ written_if (line_of s q) room
  unfolding clause_by
  clause-there n h = rw (ne_eqb q 0 n, le-ltb (clauses_of s) q h)

-- ---- a clause that the rows add

module _ (clauses : List (List ℕ)) (c room : ℕ) where
  pub no-added : length clauses ≤ c → refused 13 0 ≡ added_by clauses c room
  unfolding added_by
  no-added h = rw (le-ltb c (length clauses) h)

  pub added-there : c < length clauses → added_by clauses c room ≡ written_if (clause_line (get_or clauses c [])) room
  unfolding added_by
  added-there h = rw (lt-ltb c (length clauses) h)

module _ (s : Store) (well : is_formed s ≡ true) (q room : ℕ) (n : q ≡ 0 → ⊥) (h : s.counts.clauses ≤ q - 1) where
  abbrev c : ℕ
  c = q - 1 - s.counts.clauses

  one : 1 ≤ q
  one = omega arith

  pub clause-added : added_by (added_of s well) c room ≡ clause_by s q room
  unfolding line_of
  clause-added = by (lt-or-le c (length (added_of s well)))
    where
      by : (c < length (added_of s well)) ⊎ (length (added_of s well) ≤ c) → added_by (added_of s well) c room ≡ clause_by s q room
      by (inl inside) =
          added-there (added_of s well) c room inside
          ∙ ap (λ (clause : List ℕ). written_if (clause_line clause) room) (sym (made-added s well (q - 1) h))
          ∙ sym (clause-there s q room n (omega (arith, clauses-are s well, one)))
      by (inr past) = sym (no-added (added_of s well) c room past) ∙ no-clause-above s q room n (omega (arith, clauses-are s well, one))
