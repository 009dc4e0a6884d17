-- What was handed over and what is left are the whole output: so after each page. Assumes nothing.
use mathlib.Core.Path.{◌≡◌, ap, ◌∙◌}
use mathlib.Core.List.{List}
use Prim.Native.Nat.{ℕ, ◌+◌}
use native.Mathlib.Omega.{arith}
use lib.ListN.{length, take, drop, length-append}
use lib.Seq.{drop-append_seam, drop-drop, length-take-le}
use Rattle.store.specs.Stores.{Store}
use Rattle.program.specs.Program.{left_to_print, PageStep}
use Rattle.program.specs.declared.Stage.{Stage}

-- the rest of a text from a count on
pub record RestAt (whole : List ℕ) (handed : ℕ) (rest : List ℕ) : Type 0 where
  pub here : drop handed whole ≡ rest
  pub size : handed + length rest ≡ length whole

-- after a page the rest is what the next stage has left
pub page-rest : {s : Store} {stage next : Stage} {out after : List ℕ} {bytes : ℕ} (step : PageStep s stage out next bytes after) (whole : List ℕ) (handed : ℕ)
    → RestAt whole handed (left_to_print stage s) → (count : ℕ) → count ≡ handed + length (take bytes after) → RestAt whole count (left_to_print next s)
page-rest {s} {stage} {next} {out} {after} {bytes} step whole handed rest count e =
    let size : length (take bytes after) ≡ bytes = length-take-le bytes after (omega (arith, step.within, step.size)) in
    record {
      here = rw (e, ← drop-drop (length (take bytes after)) handed whole, rest.here ∙ step.prints) (drop-append_seam (take bytes after) (left_to_print next s));
      size = omega (arith, e, rest.size, ap length step.prints, length-append (take bytes after) (left_to_print next s), size);
    }
