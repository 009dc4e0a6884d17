-- Writing a list of values over the front of another, one after the other. Assumes nothing.
use mathlib.Core.Path.{◌≡◌, sym, ◌∙◌}
use mathlib.Core.List.{List, ◌∷◌}
use Prim.Native.Nat.{ℕ, ◌+◌, ◌≤◌}
use native.Mathlib.Nat.{zero-add}
use native.Mathlib.Numerals.{add-one}
use native.Mathlib.Omega.{arith}
use lib.ListN.{length, set}
use lib.Seq.{sets, sets-eq}
use Rattle.lists.specs.Writing.{overwritten}

-- what is still to be stored from i on: after the store of its first value, the rest from i + 1 on
pub stored : (l : List ℕ) (i : ℕ) {whole now rest : List ℕ} {v w : ℕ} → whole ≡ sets l i now → now ≡ v ∷ rest → v ≡ w → whole ≡ sets (set l i w) (i + 1) rest
stored l i p q r = p ∙ rw (q, r, add-one i)

pub sets-front : (l vs : List ℕ) → length vs ≤ length l → overwritten vs l ≡ sets l 0 vs
sets-front l vs h = sym (sets-eq vs l 0 (omega arith) ∙ rw (zero-add (length vs)))
