-- The `%` line: one law for each way through the search. Assumes nothing.
use mathlib.Core.Path.{◌≡◌, sym, ◌∙◌}
use mathlib.Core.Bool.{Bool, true, false}
use mathlib.Core.List.{List, [], ◌∷◌}
use Prim.Native.Nat.{ℕ, ◌+◌, ◌-◌, ◌≤◌, ◌<◌}
use lib.Dec.{eqb}
use lib.ListN.{length, take, drop}
use Rattle.std.specs.Cmp.Lexicographic.{pointwise}
use Rattle.dimacs.specs.Words.{run, run_end}
use Rattle.dimacs.specs.Lines.{is_line_byte, lines_at}
use Rattle.dimacs.proofs.Runs.{run-part}
use Rattle.dimacs.proofs.LineLaws.{no_line, line-here}
use Rattle.opening.specs.Problem.{same_bytes}
use Rattle.opening.proofs.SizeLaws.{same-pointwise}
use Rattle.session.specs.Input.{from_divider}

module _ (input : List ℕ) (at : ℕ) where
  -- the line at `at`, which ends at `end`, and whether its bytes are just `%`
  module _ (h : at < length input) (end : ℕ) (ends : end ≡ run_end is_line_byte input at) (just : Bool) (is : just ≡ pointwise eqb (take (end - at) (drop at input)) (37 ∷ [])) where
    tested : same_bytes (run is_line_byte (drop at input)) (37 ∷ []) ≡ just
    tested = rw (← run-part is_line_byte input at, ← ends) (sym (same-pointwise _ _) ∙ sym is)

    pub divider-here : just ≡ true → from_divider (lines_at input at) ≡ lines_at input at
    unfolding from_divider
    divider-here e = rw (line-here input at h, tested ∙ e)

    pub other-line : just ≡ false → from_divider (lines_at input at) ≡ from_divider (lines_at input (end + 1))
    unfolding from_divider
    other-line e = rw (line-here input at h, tested ∙ e, ends)

  pub no-divider : length input ≤ at → from_divider (lines_at input at) ≡ []
  unfolding from_divider
  no-divider h = rw (no_line input at h)
