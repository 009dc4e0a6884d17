-- `packed::lesser` meets its contract: the first words that differ decide. Assumes nothing.
use mathlib.Core.Path.{sym, ap, ◌∙◌}
use mathlib.Core.List.{List}
use Prim.Native.Nat.{ℕ}
use native.Mathlib.Omega.{arith}
use lib.ListN.{get_or}
use borrow.Author.Tests.{eq-eqb, ne_eqb, lt-ltb, le-ltb}
use Rattle.packed.specs.Order.{all_bits, less, lesser_of}
use Rattle.packed.proofs.Differ.{lesser-word}
use Rattle.packed.proofs.OrderLaws.{less-self}
use Rattle.packed.proofs.lesser.Goals as goal

pub returns-then-a-b : goal.returns-then-a-b
unfolding lesser_of
returns-then-a-b c = simp (ne_eqb _ _ c.if-a-b.true)

pub returns-in-Some : goal.returns-in-Some
unfolding lesser_of
returns-in-Some c =
    let a : List ℕ = c.args.a.now in
    let b : List ℕ = c.args.b.now in
    let i : ℕ = c.in-Some.i in
    simp (eq-eqb _ _ c.if-a-b.false, lesser-word a b i c.if-a-b.false c.in-Some.ensures (omega (arith, c.type_inv.a i)) (omega (arith, c.type_inv.b i)), lt-ltb (get_or b i 0) (get_or a i 0) (omega arith))

pub returns-in_default : goal.returns-in_default
unfolding lesser_of
returns-in_default c =
    let a : List ℕ = c.args.a.now in
    let b : List ℕ = c.args.b.now in
    let i : ℕ = c.in-Some.i in
    simp (eq-eqb _ _ c.if-a-b.false, lesser-word a b i c.if-a-b.false c.in-Some.ensures (omega (arith, c.type_inv.a i)) (omega (arith, c.type_inv.b i)), le-ltb (get_or b i 0) (get_or a i 0) (omega arith))

pub returns-in_default-2 : goal.returns-in_default-2
unfolding lesser_of
returns-in_default-2 c =
    simp (eq-eqb _ _ c.if-a-b.false, ap (λ (l : List ℕ). less (all_bits l) (all_bits c.args.a.now)) (sym c.in_default.ensures) ∙ less-self (all_bits c.args.a.now))
