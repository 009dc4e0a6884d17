-- A line is a comment by its first byte in the text. Assumes nothing.
use mathlib.Core.Path.{◌≡◌, refl, ◌∙◌}
use mathlib.Core.Bool.{Bool, true, false, cond, not}
use mathlib.Core.List.{List, [], ◌∷◌}
use mathlib.Core.Logic.{⊎_elim}
use Prim.Native.Nat.{ℕ, suc, ◌+◌, ◌≤◌, ◌<◌}
use native.Mathlib.Omega.{arith}
use borrow.Author.Tests.{eq-eqb, ne_eqb, eqb-true}
use lib.ListN.{length, drop, get_or}
use lib.Seq.{drop-cons}
use lib.Dec.{eqb}
use Rattle.lists.proofs.Cases.{lt-or-le, eq-or-ne}
use Rattle.lists.proofs.Steps.{forward}
use Rattle.dimacs.specs.Words.{run, run_end}
use Rattle.dimacs.specs.Lines.{is_line_byte, lines_at}
use Rattle.dimacs.proofs.LineLaws.{no_line, line-here}
use Rattle.comments.specs.Comments.{after_comments}

module _ (text : List ℕ) (at : ℕ) where
  -- a line feed is no `c`
  pub comment-byte : at < length text → eqb (get_or (run is_line_byte (drop at text)) 0 0) 99 ≡ eqb (get_or text at 0) 99
  unfolding run
  comment-byte h = rw (drop-cons text at 0 h) (by (eqb (get_or text at 0) 10) refl)
    where
      by : (t : Bool) → eqb (get_or text at 0) 10 ≡ t
          → eqb (get_or (cond (not t) (get_or text at 0 ∷ run is_line_byte (drop (suc at) text)) []) 0 0) 99 ≡ eqb (get_or text at 0) 99
      by true e = rw (eqb-true (get_or text at 0) 10 e)
      by false e = refl

  pub comment : at < length text → get_or text at 0 ≡ 99 → after_comments (lines_at text at) ≡ after_comments (lines_at text (run_end is_line_byte text at + 1))
  unfolding after_comments
  comment h e = rw (line-here text at h, comment-byte h, eq-eqb (get_or text at 0) 99 e)

  pub no-comment : at < length text → (get_or text at 0 ≡ 99 → ⊥) → after_comments (lines_at text at) ≡ lines_at text at
  unfolding after_comments
  no-comment h e = rw (line-here text at h, comment-byte h, ne_eqb (get_or text at 0) 99 e)

  pub no_lines : length text ≤ at → after_comments (lines_at text at) ≡ lines_at text at
  unfolding after_comments
  no_lines h = rw (no_line text at h)

-- the lines after the comments are those from some place on
module _ (text : List ℕ) where
  abbrev From : ℕ → Type 0
  From at = (place : ℕ) × (after_comments (lines_at text at) ≡ lines_at text place)

  pub lines_from : From 0
  lines_from = forward (length text) From (λ at h. (at, no_lines text at h)) here 0
    where
      here : (at : ℕ) → ((next : ℕ) → at < next → From next) → From at
      here at later = ⊎_elim within (λ h. (at, no_lines text at h)) (lt-or-le at (length text))
        where
          within : at < length text → From at
          within h =
              ⊎_elim
              (λ c. let r = later (run_end is_line_byte text at + 1) (omega arith) in (r.0, comment text at h c ∙ r.1))
              (λ c. (at, no-comment text at h c))
              (eq-or-ne (get_or text at 0) 99)
