-- Filling a buffer: one law for a line that fits, one for a line that does not, and one for nothing left. Assumes nothing.
use mathlib.Core.Path.{◌≡◌, sym, ap, ◌∙◌}
use mathlib.Core.Bool.{true}
use mathlib.Core.List.{List, [], ◌∷◌}
use Prim.Native.Nat.{ℕ, ◌+◌, ◌≤◌, ◌<◌}
use native.Mathlib.Omega.{arith}
use borrow.Author.Tests.{le-leb, lt-leb}
use lib.ListN.{length, get_or}
use Rattle.std.proofs.Common.{Some, None}
use Rattle.store.specs.Stores.{Store, clause_at, is_formed}
use Rattle.store.specs.declared.record.Record.{Record}
use Rattle.symmetry.proofs.SetLaws.{at_mem}
use Rattle.lexleader.specs.Store.{made_of, clauses_of}
use Rattle.lexleader.proofs.MadeLaws.{clauses-are, made_plain}
use Rattle.render.specs.Text.{clause_line, written_at}
use Rattle.render.proofs.LineLaws.{line-short, line-some}
use Rattle.render.proofs.Writing.{length-written}
use Rattle.emit.proofs.Bounds.{line-longest}
use Rattle.cursor.specs.Cursors.{remaining, CursorStands}
use Rattle.pages.specs.Pages.{fill_from, longest, LineAdded, PageFull, LinePut}
use Rattle.pages.specs.declared.Page.{Page}

module _ (clause : List ℕ) (clauses : List (List ℕ)) (at : ℕ) (out : List ℕ) where
  pub fill_more : at + length (clause_line clause) ≤ length out → fill_from at (clause ∷ clauses) out ≡ fill_from (at + length (clause_line clause)) clauses (written_at at (clause_line clause) out)
  unfolding fill_from
  fill_more h = rw (le-leb (at + length (clause_line clause)) (length out) h)

  pub fill-full : length out < at + length (clause_line clause) → fill_from at (clause ∷ clauses) out ≡ record { buffer = out; end = at; rest = clause ∷ clauses }
  unfolding fill_from
  fill-full h = rw (lt-leb (at + length (clause_line clause)) (length out) h)

-- ---- no line is too long for an empty page

-- a plain clause is one of the made formula
pub plain-short : (s : Store) → is_formed s ≡ true → (c : ℕ) → c < s.counts.clauses → length (clause_line (clause_at s.literals s.ends c)) ≤ longest
unfolding clauses_of
plain-short s formed c h =
    rw (made_plain s formed c h) at (line-longest s formed (get_or (made_of s) c []) (at_mem [] (made_of s) c (omega (arith, clauses-are s formed))))

-- one that the rows add has four literals at most, so it is short whatever they are
pub added-short : (clause : List ℕ) → length clause ≤ 4 → length (clause_line clause) ≤ longest
added-short clause few = omega (arith, line-short clause)

-- ---- one step

module _ (plain : List (List ℕ)) (counts : Record) (images : List ℕ) (page : Page) (out : List ℕ) where
  abbrev left : List (List ℕ)
  left = remaining plain counts images page.cursor

  -- nothing is left
  pub over : left ≡ [] → PageFull plain counts images page out out
  unfolding fill_from
  over none = record { stopped = rw none; moves = λ _. none }

  module _ {clause : List ℕ} {rest : List (List ℕ)} (is : left ≡ clause ∷ rest) where
    -- whose line does not fit
    pub full : length (clause_line clause) ≤ longest → {line after : List ℕ} → line ≡ clause_line clause → LinePut line page.bytes out None after
        → PageFull plain counts images page out after
    full short {line} {after} e put =
        let past : length out < page.bytes + length (clause_line clause) = rw e at put.0 in
        rw put.1 (record { stopped = rw is (fill-full clause rest page.bytes out past); moves = λ room. absurd (omega arith) })

    -- whose line fits
    pub adds : {line after : List ℕ} {longer : Page} → line ≡ clause_line clause → LinePut line page.bytes out (Some longer.bytes) after
        → CursorStands counts images longer.cursor → remaining plain counts images longer.cursor ≡ rest → LineAdded plain counts images page out longer after
    adds {line} {after} {longer} e put stands next =
        let there : LinePut (clause_line clause) page.bytes out (Some longer.bytes) after = rw e at put in
        let size : length after ≡ length out = ap length there.2 ∙ length-written page.bytes (clause_line clause) out there.0 in
        record {
          same = rw (there.1, there.2, next) (sym (rw is (fill_more clause rest page.bytes out there.0)));
          stands = stands;
          onward = omega (arith, there.1, line-some clause);
          within = omega (arith, there.1, there.0);
          size = size;
        }
