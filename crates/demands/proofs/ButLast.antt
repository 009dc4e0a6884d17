-- A list without its last. Assumes nothing.
use mathlib.Core.Path.{◌≡◌, sym, ap, ◌∙◌}
use mathlib.Core.List.{List, [], ◌∷◌, ◌++◌}
use Prim.Native.Nat.{◌+◌, ◌-◌, ◌<◌}
use native.Mathlib.Omega.{arith}
use lib.ListN.{length, get_or, length-append, take-append-drop, drop_of_length-le}
use lib.Seq.{take-append_seam}
use Rattle.lists.proofs.Steps.{drop-step}
use Rattle.demands.specs.Lists.{but_last}

module _ {A : Type 0} (l : List A) where
  pub but-last-more : (x : A) → but_last (l ++ (x ∷ [])) ≡ l
  but-last-more x =
      let size : length (l ++ (x ∷ [])) - 1 ≡ length l = omega (arith, length-append l (x ∷ [])) in
      rw size (take-append_seam l (x ∷ []))

  -- with its last it is the list
  pub last_apart : (d : A) → 0 < length l → l ≡ but_last l ++ (get_or l (length l - 1) d ∷ [])
  last_apart d h =
      sym (take-append-drop (length l - 1) l)
      ∙ ap (λ (k : List A). but_last l ++ k)
      (drop-step l (length l - 1) d (omega arith)
      ∙ ap (λ (k : List A). get_or l (length l - 1) d ∷ k) (drop_of_length-le l {i = length l - 1 + 1} (omega arith)))
