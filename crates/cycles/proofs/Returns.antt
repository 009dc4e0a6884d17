-- From any variable of a signed row the walk along its images comes back within n steps. Assumes nothing.
use mathlib.Core.Path.{◌≡◌, sym, ap, ◌∙◌}
use mathlib.Core.List.{List}
use Prim.Native.Nat.{ℕ, zero, suc, ◌+◌, ◌-◌, ◌≤◌, ◌<◌}
use native.Mathlib.Nat.{zero-add, suc-add}
use native.Mathlib.Omega.{arith}
use Rattle.lists.proofs.Finite.{twice}
use Rattle.cycles.specs.Cycles.{sent_to}
use Rattle.store.proofs.Formed.{Row}
use Rattle.cycles.proofs.Sent.{sent-low, sent-high, sent-once}

-- the variable k steps after j
unfoldable pub after : List ℕ → ℕ → ℕ → ℕ
after row zero j = j
after row (suc k) j = after row k (sent_to row j)

pub after-add : (row : List ℕ) (d k j : ℕ) → after row (d + k) j ≡ after row k (after row d j)
unfolding after
after-add row zero k j = rw zero-add
after-add row (suc d) k j = rw suc-add (after-add row d k (sent_to row j))

module _ (n : ℕ) (row : List ℕ) (r : Row n row) where
  pub after-low : (k j : ℕ) → 1 ≤ j → j ≤ n → 1 ≤ after row k j
  unfolding after
  after-low zero j low high = low
  after-low (suc k) j low high = after-low k (sent_to row j) (sent-low n row r j low high) (sent-high n row r j low high)

  pub after-high : (k j : ℕ) → 1 ≤ j → j ≤ n → after row k j ≤ n
  unfolding after
  after-high zero j low high = high
  after-high (suc k) j low high = after-high k (sent_to row j) (sent-low n row r j low high) (sent-high n row r j low high)

  -- steps are taken back
  pub undo : (k i j : ℕ) → 1 ≤ i → i ≤ n → 1 ≤ j → j ≤ n → after row k i ≡ after row k j → i ≡ j
  unfolding after
  undo zero i j a b c d e = e
  undo (suc k) i j a b c d e =
      sent-once n row r i a b j c d
      (undo k (sent_to row i) (sent_to row j) (sent-low n row r i a b) (sent-high n row r i a b) (sent-low n row r j c d) (sent-high n row r j c d) e)

  -- among n + 1 variables of the walk two are the same, and the steps up to the first are taken back from both
  pub returns : (j : ℕ) → 1 ≤ j → j ≤ n → (k : ℕ) × (k < n) × (after row (suc k) j ≡ j)
  returns j low high =
      let index : ℕ → ℕ = λ k. after row k j - 1 in
      let t = twice n index (λ k h. omega (arith, after-low k j low high, after-high k j low high)) in
      let f : ℕ = t.first in
      let d : ℕ = t.second - f - 1 in
      let split : t.second ≡ suc d + f = omega (arith, t.order) in
      let meet : after row f j ≡ after row t.second j =
      omega (arith, t.same, after-low f j low high, after-low t.second j low high) in
      let home : j ≡ after row (suc d) j =
      undo f j (after row (suc d) j) low high (after-low (suc d) j low high) (after-high (suc d) j low high)
      (meet ∙ ap (λ (k : ℕ). after row k j) split ∙ after-add row (suc d) f j) in
      (d, omega (arith, t.order, t.last), sym home)
