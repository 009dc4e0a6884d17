-- A page holds the lines of the clauses that fit, in order: the page and the lines of the clauses that are left are the whole text. Assumes nothing.
use mathlib.Core.Path.{◌≡◌, refl, sym, ap, ◌∙◌}
use mathlib.Core.Logic.{◌⊎◌, inl, inr}
use mathlib.Core.List.{List, [], ◌∷◌, ◌++◌, append_assoc}
use Prim.Native.Nat.{ℕ, ◌+◌, ◌-◌, ◌≤◌, ◌<◌}
use native.Mathlib.Omega.{arith}
use lib.ListN.{length, take, drop, length-append}
use lib.Seq.{length-take-le, take-append_seam, drop-append-add, drop-drop}
use Rattle.lists.proofs.Cases.{lt-or-le}
use Rattle.render.specs.Text.{clause_line, written_at}
use Rattle.render.proofs.Writing.{length-written}
use Rattle.emit.specs.Emit.{lines_of}
use Rattle.pages.specs.Pages.{FilledPage, fill_from}
use Rattle.pages.proofs.FillLaws.{fill_more, fill-full}

-- a buffer filled from a place on: what is before stays, what is past the page stays, and between them are the lines of the clauses that are not left
pub record PageHolds (at : ℕ) (clauses : List (List ℕ)) (out : List ℕ) (f : FilledPage) : Type 0 where
  pub onward : at ≤ f.end
  pub within : f.end ≤ length out
  pub size : length f.buffer ≡ length out
  pub past : drop f.end f.buffer ≡ drop f.end out
  pub text : take at out ++ lines_of clauses ≡ take f.end f.buffer ++ lines_of f.rest

module _ (at : ℕ) (line out : List ℕ) (h : at + length line ≤ length out) where
  front : List ℕ
  front = take at out ++ line

  front_length : length front ≡ at + length line
  unfolding front
  front_length = length-append (take at out) line ∙ ap (λ (n : ℕ). n + length line) (length-take-le at out (omega arith))

  written_is : written_at at line out ≡ front ++ drop (at + length line) out
  unfolding written_at front
  written_is = refl

  take-written : take (at + length line) (written_at at line out) ≡ take at out ++ line
  unfolding front
  take-written =
      ap (take (at + length line)) written_is
      ∙ ap (λ (n : ℕ). take n (front ++ drop (at + length line) out)) (sym front_length)
      ∙ take-append_seam front (drop (at + length line) out)

  drop-written : (k : ℕ) → at + length line ≤ k → drop k (written_at at line out) ≡ drop k out
  drop-written k l =
      let over : k ≡ length front + (k - (at + length line)) = omega (arith, front_length) in
      let whole : at + length line + (k - (at + length line)) ≡ k = omega arith in
      ap (drop k) written_is
      ∙ ap (λ (n : ℕ). drop n (front ++ drop (at + length line) out)) over
      ∙ drop-append-add front (drop (at + length line) out) (k - (at + length line))
      ∙ drop-drop (k - (at + length line)) (at + length line) out
      ∙ ap (λ (n : ℕ). drop n out) whole

lines_more : (clause : List ℕ) (clauses : List (List ℕ)) (front : List ℕ) → front ++ lines_of (clause ∷ clauses) ≡ (front ++ clause_line clause) ++ lines_of clauses
unfolding lines_of
lines_more clause clauses front = sym (append_assoc front (clause_line clause) (lines_of clauses))

pub page-holds : (at : ℕ) (clauses : List (List ℕ)) (out : List ℕ) → at ≤ length out → PageHolds at clauses out (fill_from at clauses out)
unfolding fill_from
page-holds at [] out h = record { onward = omega arith; within = h; size = refl; past = refl; text = refl }
page-holds at (clause ∷ clauses) out h =
    go (lt-or-le (length out) (at + length (clause_line clause)))
    (λ l. page-holds (at + length (clause_line clause)) clauses (written_at at (clause_line clause) out) (omega (arith, length-written at (clause_line clause) out l)))
  where
    go : (length out < at + length (clause_line clause)) ⊎ (at + length (clause_line clause) ≤ length out)
        → (at + length (clause_line clause) ≤ length out
        → PageHolds (at + length (clause_line clause)) clauses (written_at at (clause_line clause) out) (fill_from (at + length (clause_line clause)) clauses (written_at at (clause_line clause) out)))
        → PageHolds at (clause ∷ clauses) out (fill_from at (clause ∷ clauses) out)
    go (inl l) rest = rw (fill-full clause clauses at out l) (record { onward = omega arith; within = h; size = refl; past = refl; text = refl })
    go (inr l) rest =
        let r = rest l in
        let same = length-written at (clause_line clause) out l in
        rw (fill_more clause clauses at out l) (record {
          onward = omega (arith, r.onward);
          within = omega (arith, r.within);
          size = r.size ∙ same;
          past = r.past ∙ drop-written at (clause_line clause) out l _ r.onward;
          text = lines_more clause clauses (take at out) ∙ ap (λ (front : List ℕ). front ++ lines_of clauses) (sym (take-written at (clause_line clause) out l)) ∙ r.text;
        })
