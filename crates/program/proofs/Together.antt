-- The pages together are the output: whole, once, in order. Assumes nothing.
use mathlib.Core.Path.{◌≡◌, refl, sym, ap, ◌∙◌}
use mathlib.Core.List.{List, ◌++◌}
use Prim.Native.Nat.{ℕ}
use lib.ListN.{take}
use Rattle.store.specs.Stores.{Store}
use Rattle.standing.specs.Keyed.{Keyed}
use Rattle.program.specs.Program.{output_of, left_to_print}
use Rattle.program.specs.Together.{PagesFrom, last, page, together}
use Rattle.program.specs.declared.Stage.{Stage}

-- the pages from a stage on are what was left to print at it
pub pages-together : {s : Store} {stage : Stage} {pages : List (List ℕ)} → PagesFrom s stage pages → together pages ≡ left_to_print stage s
unfolding together
pages-together (last stage next out after step) = sym (step.last refl)
pages-together (page stage next out after bytes pages step some rest) =
    ap (λ (l : List ℕ). take bytes after ++ l) (pages-together rest) ∙ sym step.prints

-- and from the first stage, which `begin` leaves in its store t, they are the output for the input
pub pages-are-output : (s : Keyed) (t : Store) (input : List ℕ) {stage : Stage} {pages : List (List ℕ)} → left_to_print stage t ≡ output_of s input
    → PagesFrom t stage pages → together pages ≡ output_of s input
pages-are-output s t input begun pages = pages-together pages ∙ begun
