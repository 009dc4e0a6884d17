-- What makes the shorter form right (document 02, CR 9): where every smaller variable has the value of its image, so has a variable that is left out. All others of its cycle are
-- smaller, and going round from its image the value is turned as often as the sign is. Assumes nothing.
use mathlib.Core.Path.{◌≡◌, refl, sym, ap, ◌∙◌}
use mathlib.Core.Bool.{Bool, true, false, not, cond}
use mathlib.Core.List.{List, [], ◌∷◌}
use Prim.Native.Nat.{ℕ, zero, suc, ◌-◌, ◌≤◌, ◌<◌}
use native.Mathlib.Nat.{not-suc-le-zero, le_of_suc-le-suc}
use native.Mathlib.Omega.{arith}
use borrow.Author.Tests.{eqb-true, eqb-false, leb-true, not-true}
use lib.ListN.{length, get_or}
use lib.Dec.{eqb, leb}
use Rattle.lists.specs.Tests.{all_of}
use Rattle.lists.proofs.Cases.{and_l, and_r}
use Rattle.store.proofs.Formed.{Row}
use Rattle.cycles.specs.Cycles.{sent_to, turns, met_from, cycle_of, is_largest, oddly, turns_odd, left_out}
use Rattle.cycles.proofs.Sent.{sent-low, sent-high}
use Rattle.cycles.proofs.Returns.{after, returns}
use Rattle.lexleader.specs.Models.{literal_value}

-- a value, turned or not
turned_by : Bool → Bool → Bool
turned_by odd b = cond odd (not b) b

turned-not : (t o b : Bool) → cond t (not (turned_by o b)) (turned_by o b) ≡ turned_by (cond t (not o) o) b
unfolding turned_by
turned-not true true true = refl
turned-not true true false = refl
turned-not true false b = refl
turned-not false o b = refl

-- the value of the image of variable j
image-value : (v : ℕ → Bool) (row : List ℕ) (j : ℕ) → literal_value v (get_or row (j - 1) 0) ≡ cond (turns row j) (not (v (sent_to row j))) (v (sent_to row j))
unfolding literal_value turns sent_to
image-value v row j = refl

-- every smaller variable has the value of its image
abbrev pub AgreesBelow : (ℕ → Bool) → List ℕ → ℕ → Type 0
AgreesBelow v row z = (j : ℕ) → 1 ≤ j → j < z → literal_value v (get_or row (j - 1) 0) ≡ v j

module _ (n : ℕ) (row : List ℕ) (r : Row n row) (v : ℕ → Bool) (z : ℕ) (below : AgreesBelow v row z) where
  -- from j on round to z the value is turned as often as the sign is
  round : (most k j : ℕ) → k ≤ most → after row k j ≡ z → 1 ≤ j → j ≤ n → all_of (λ i. leb i z) (met_from row z most j) ≡ true
      → v j ≡ turned_by (oddly (turns row) (met_from row z most j)) (v z)
  unfolding met_from oddly all_of after turned_by
  round zero zero j fits end low high all = ap v end
  round zero (suc k) j fits end low high all = absurd (not-suc-le-zero fits)
  round (suc most) k j fits end low high all =
      go k fits end (eqb j z) refl all (λ k' fits' end' all'. round most k' (sent_to row j) fits' end' (sent-low n row r j low high) (sent-high n row r j low high) all')
    where
      go : (k : ℕ) → k ≤ suc most → after row k j ≡ z → (c : Bool) → eqb j z ≡ c
          → all_of (λ i. leb i z) (cond c [] (j ∷ met_from row z most (sent_to row j))) ≡ true
          → ((k' : ℕ) → k' ≤ most → after row k' (sent_to row j) ≡ z → all_of (λ i. leb i z) (met_from row z most (sent_to row j)) ≡ true
          → v (sent_to row j) ≡ turned_by (oddly (turns row) (met_from row z most (sent_to row j))) (v z))
          → v j ≡ turned_by (oddly (turns row) (cond c [] (j ∷ met_from row z most (sent_to row j)))) (v z)
      go k fits end true e all rest = ap v (eqb-true j z e)
      go zero fits end false e all rest = absurd (eqb-false j z e end)
      go (suc k) fits end false e all rest =
          let here = leb-true j z (and_l (leb j z) (all_of (λ i. leb i z) (met_from row z most (sent_to row j))) all) in
          let more = and_r (leb j z) (all_of (λ i. leb i z) (met_from row z most (sent_to row j))) all in
          let next = rest k (le_of_suc-le-suc fits) end more in
          sym (below j low (strict here (eqb-false j z e))) ∙ image-value v row j ∙ rw next (turned-not (turns row j) (oddly (turns row) (met_from row z most (sent_to row j))) (v z))
        where
          strict : j ≤ z → (j ≡ z → ⊥) → j < z
          strict h ne = omega arith

  pub left-agrees : 1 ≤ z → z ≤ n → left_out row z ≡ true → literal_value v (get_or row (z - 1) 0) ≡ v z
  unfolding left_out is_largest turns_odd cycle_of turned_by oddly all_of after
  left-agrees low high out =
      let rest : List ℕ = met_from row z (length row) (sent_to row z) in
      let largest = and_r (leb z z) (all_of (λ i. leb i z) rest) (and_l (is_largest row z) (not (turns_odd row z)) out) in
      let even : turns_odd row z ≡ false = not-true (turns_odd row z) (and_r (is_largest row z) (not (turns_odd row z)) out) in
      let t = returns n row r z low high in
      let next : v (sent_to row z) ≡ turned_by (oddly (turns row) rest) (v z) =
      round (length row) t.0 (sent_to row z) (omega (arith, t.1, r.size)) t.2 (sent-low n row r z low high) (sent-high n row r z low high) largest in
      image-value v row z ∙ rw next (turned-not (turns row z) (oddly (turns row) rest) (v z)) ∙ ap (λ (b : Bool). turned_by b (v z)) even
