-- Document 02, CR 7: `AlwaysTrue` holds. Assumes nothing.
use mathlib.Core.Path.{◌≡◌, refl, sym, ◌∙◌}
use mathlib.Core.Bool.{Bool, true, false}
use mathlib.Core.List.Memᴰ
use mathlib.Core.List.{List, Memᴰ}
use mathlib.Core.Logic.{◌↔◌}
use Prim.Native.Nat.{ℕ, ◌+◌, ◌*◌, ◌/◌, ◌%◌}
use native.Mathlib.Omega.{arith}
use borrow.Author.Tests.{eqb-true, eqb-false}
use Rattle.packed.specs.Order.{value_of}
use Rattle.store.specs.Literals.{is_negative, opposite_of}
use Rattle.store.specs.Refusals.{done}
use Rattle.store.specs.Stores.{plain_of}
use Rattle.store.specs.Identity.{MovesSomething}
use Rattle.store.proofs.FormLaws.{opposite-is}
use Rattle.store.proofs.Formed.{formed, row_of}
use Rattle.store.proofs.Within.{literals-within}
use Rattle.standing.specs.Keyed.{Keyed}
use Rattle.standing.proofs.StandingLaws.{its-form}
use Rattle.permutation.proofs.Theorem.{stated-row}
use Rattle.symmetry.specs.Judged.{has_opposites}
use Rattle.symmetry.specs.Former.{IsFormerSymmetry}
use Rattle.symmetry.proofs.JudgedLaws.{opposites-iff, opposites-image, judged-iff}
use Rattle.symmetry.proofs.Theorem.{symmetry-still}
use Rattle.offering.specs.Offering.{row_for}
use Rattle.lexleader.proofs.AlwaysTrue.{always-iff, holds-judged}
use Rattle.calls.specs.Calls.{accepted, offer_says}
use Rattle.demands.specs.Demand2.{Permitted}
use Rattle.demands.specs.AlwaysTrue.{AlwaysTrue}
use Rattle.demands.proofs.Acceptance.{accepted-iff}

-- a variable and its negation, from a literal and its opposite
opposites-are : (clause : List ℕ) → (has_opposites clause ≡ true) ↔ ((i : ℕ) × Memᴰ (2 * i) clause × Memᴰ (2 * i + 1) clause)
opposites-are clause = (
  λ e. let p = (opposites-iff clause).0 e in by p.literal p.one p.other (is_negative p.literal) refl,
  λ p. (opposites-iff clause).1 (record { literal = 2 * p.0; one = p.1; other = Memᴰ.cast (negation p.0) p.2 }),
)
  where
    negation : (i : ℕ) → opposite_of (2 * i) ≡ 2 * i + 1
    negation i = omega (arith, (opposite-is (2 * i)).0, (opposite-is (2 * i)).1)

    by : (code : ℕ) → Memᴰ code clause → Memᴰ (opposite_of code) clause → (b : Bool) → is_negative code ≡ b
        → (i : ℕ) × Memᴰ (2 * i) clause × Memᴰ (2 * i + 1) clause
    by code one other true q =
        let odd = eqb-true (code % 2) 1 q in
        let turned : 2 * (code / 2) ≡ opposite_of code = omega (arith, (opposite-is code).0, (opposite-is code).1) in
        (code / 2, Memᴰ.cast turned other, Memᴰ.cast (omega arith) one)
    by code one other false q =
        let even = eqb-false (code % 2) 1 q in
        let turned : 2 * (code / 2) + 1 ≡ opposite_of code = omega (arith, (opposite-is code).0, (opposite-is code).1) in
        (code / 2, Memᴰ.cast (omega arith) one, Memᴰ.cast turned other)

accepted-still : (s : Keyed) (names values : List ℕ) → Permitted s names values → IsFormerSymmetry (row_for s.store names values) (plain_of s.store)
    → MovesSomething (row_for s.store names values) → offer_says s names values ≡ done accepted
accepted-still s names values p former moves =
    let n = s.store.counts.variables in
    let symmetric = symmetry-still n (row_for s.store names values) (plain_of s.store)
    (row_of n (row_for s.store names values) (stated-row n names values p.states.stated)) (literals-within s.store (formed s.store (its-form s p.states.formed))) former in
    (accepted-iff s names values).1 (p, symmetric, moves)

pub always-true : AlwaysTrue
always-true = record {
  contradictory = opposites-are;
  forbids-nothing = always-iff;
  judges = judged-iff;
  models = λ n formula a. let same = holds-judged (value_of a) formula in
      (λ m. record { size = m.size; holds = sym same ∙ m.holds }, λ m. record { size = m.size; holds = same ∙ m.holds });
  image = λ n row clause r good. opposites-image n row (row_of n row r) clause good;
  still = accepted-still;
}
