-- `packed::first_difference` meets its contract: the highest bit of the exclusive or of the first words that differ. Assumes nothing.
use mathlib.Core.Path.{sym, ap, ◌∙◌}
use mathlib.Core.List.{List}
use Prim.Native.Nat.{ℕ}
use native.Mathlib.Omega.{arith}
use Rattle.packed.specs.Order.{all_bits, first_difference}
use Rattle.packed.proofs.Differ.{words-difference}
use Rattle.packed.proofs.OrderLaws.{difference-self}
use Rattle.packed.proofs.first_difference.Goals as goal

pub returns-in-Some : goal.returns-in-Some
returns-in-Some c =
    let i : ℕ = c.in-Some.i in
    sym (words-difference c.args.a.now c.args.b.now i c.requires.0 c.in-Some.ensures (omega (arith, c.type_inv.a i)) (omega (arith, c.type_inv.b i)))

pub returns-in-None : goal.returns-in-None
returns-in-None c =
    sym (difference-self (all_bits c.args.a.now)) ∙ ap (λ (l : List ℕ). first_difference (all_bits c.args.a.now) (all_bits l)) c.in-None.ensures
