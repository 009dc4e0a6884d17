-- `store::literal::opposite` meets its contract: the last bit alone is turned. Assumes nothing.
use mathlib.Core.Path.{◌≡◌, refl, ◌∙◌}
use mathlib.Core.Bool.{Bool, true, false, cond}
use Prim.Native.Nat.{ℕ, zero, suc, ◌+◌, ◌-◌, ◌/◌, ◌%◌, ◌<◌}
use native.Mathlib.Omega.{arith}
use borrow.Author.Tests.{eqb-true, eqb-false}
use lib.Bits.{bit_xor, xor_shr, xor_mod, xor_add_and, and_le_r}
use lib.Dec.{eqb}
use Rattle.store.specs.Literals.{opposite_of}
use Rattle.store.proofs.literal.opposite.Goals as goal

half : (code : ℕ) → bit_xor code 1 / 2 ≡ code / 2
half code = xor_shr code 1 1 ∙ omega (arith, xor_add_and (code / 2) 0, and_le_r (code / 2) 0)

last : (code : ℕ) → bit_xor code 1 % 2 ≡ 1 - code % 2
last code = xor_mod code 1 1 ∙ by (code % 2) (omega arith)
  where
    by : (r : ℕ) → r < 2 → bit_xor r 1 ≡ 1 - r
    by zero h = refl
    by (suc zero) h = refl
    by (suc (suc r)) h = absurd (omega arith)

turned : (code : ℕ) → bit_xor code 1 ≡ opposite_of code
turned code = by (eqb (code % 2) 1) refl
  where
    by : (b : Bool) → eqb (code % 2) 1 ≡ b → bit_xor code 1 ≡ cond b (code - 1) (code + 1)
    by true e = omega (arith, half code, last code, eqb-true (code % 2) 1 e)
    by false e = omega (arith, half code, last code, eqb-false (code % 2) 1 e)

pub returns : goal.returns
returns c = turned c.args.code
