-- The lines of a text: what `line_end` says of them. Assumes nothing.
use mathlib.Core.Path.{◌≡◌, refl, ap, ◌∙◌}
use mathlib.Core.Bool.{Bool, true, false}
use mathlib.Core.List.{List, [], ◌∷◌}
use Prim.Native.Nat.{ℕ, suc, ◌+◌, ◌≤◌, ◌<◌}
use native.Mathlib.Nat.{add-zero}
use native.Mathlib.Omega.{arith}
use lib.ListN.{length, drop, get_or, drop_of_length-le}
use lib.Seq.{drop-cons, drop-drop}
use Rattle.dimacs.specs.Words.{run, run_end, Piece}
use Rattle.dimacs.specs.Lines.{is_line_feed, is_line_byte, lines_from, lines_at}

-- the rest of a line is passed, with its line feed
line-from : (s : List ℕ) (at : ℕ)
    → lines_from false at s ≡ lines_from true (at + length (run is_line_byte s) + 1) (drop (suc (length (run is_line_byte s))) s)
unfolding run lines_from
line-from [] at = refl
line-from (b ∷ r) at = by (is_line_feed b) refl (line-from r (at + 1))
  where
    by : (t : Bool) → is_line_feed b ≡ t
        → lines_from false (at + 1) r ≡ lines_from true (at + 1 + length (run is_line_byte r) + 1) (drop (suc (length (run is_line_byte r))) r)
        → lines_from false at (b ∷ r) ≡ lines_from true (at + length (run is_line_byte (b ∷ r)) + 1) (drop (suc (length (run is_line_byte (b ∷ r)))) (b ∷ r))
    by false e ih = rw e (ih ∙ ap (λ (n : ℕ). lines_from true n (drop (suc (length (run is_line_byte r))) r)) (omega arith))
    by true e ih = simp (e, add-zero)

fresh-line : (s : List ℕ) (b : ℕ) (r : List ℕ) (at : ℕ) → s ≡ b ∷ r
    → lines_from true at s ≡ record { place = at; bytes = run is_line_byte s } ∷ lines_from false at s
unfolding lines_from
fresh-line s b r at p = rw p

module _ (text : List ℕ) (at : ℕ) where
  -- no line starts at the end of the text
  pub no_line : length text ≤ at → lines_at text at ≡ []
  unfolding lines_from
  no_line h = rw (drop_of_length-le text h)

  -- the line at a place, and the lines after it
  pub line-here : at < length text
      → lines_at text at ≡ record { place = at; bytes = run is_line_byte (drop at text) } ∷ lines_at text (run_end is_line_byte text at + 1)
  line-here h =
      let past : at + suc (length (run is_line_byte (drop at text))) ≡ run_end is_line_byte text at + 1 = omega arith in
      fresh-line (drop at text) (get_or text at 0) (drop (suc at) text) at (drop-cons text at 0 h)
      ∙ ap (λ (ls : List Piece). record { place = at; bytes = run is_line_byte (drop at text) } ∷ ls)
      (line-from (drop at text) at
      ∙ ap (lines_from true (run_end is_line_byte text at + 1))
      (drop-drop (suc (length (run is_line_byte (drop at text)))) at text ∙ ap (λ (n : ℕ). drop n text) past))
