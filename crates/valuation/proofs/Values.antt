-- The value of a literal, where the value of its variable is known. Assumes nothing.
use mathlib.Core.Path.{◌≡◌, ap}
use mathlib.Core.Bool.{Bool, not}
use Prim.Native.Nat.{ℕ, ◌/◌, ◌%◌}
use borrow.Author.Tests.{eq-eqb, ne_eqb}
use Rattle.lexleader.specs.Models.{literal_value}

module _ (v : ℕ → Bool) (code : ℕ) (b : Bool) (e : b ≡ v (code / 2)) where
  pub negative-value : code % 2 ≡ 1 → not b ≡ literal_value v code
  unfolding literal_value
  negative-value r = rw (eq-eqb (code % 2) 1 r) (ap not e)

  pub positive-value : (code % 2 ≡ 1 → ⊥) → b ≡ literal_value v code
  unfolding literal_value
  positive-value r = rw (ne_eqb (code % 2) 1 r) e
