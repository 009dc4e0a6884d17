-- The row that moves nothing: it is the identity, it is a row, and every other row moves something. Assumes nothing.
use mathlib.Core.Path.{◌≡◌, refl, sym, ◌∙◌}
use mathlib.Core.Bool.{Bool, true, false}
use mathlib.Core.List.{List, [], ◌∷◌}
use mathlib.Core.Logic.{◌↔◌}
use Prim.Native.Nat.{ℕ, zero, suc, ◌+◌, ◌-◌, ◌*◌, ◌≤◌, ◌<◌}
use native.Mathlib.Nat.{not-suc-le-zero, le_of_suc-le-suc}
use native.Mathlib.Omega.{arith}
use borrow.Author.Tests.{eq-eqb, ne_eqb, eqb-true, eqb-false}
use lib.ListN.{length, get_or, drop, drop_of_length-le}
use lib.Seq.{ext_get_or}
use lib.Dec.{eqb}
use Rattle.lists.proofs.Cases.{never, and_l, and_r, and_both, not_so}
use Rattle.lists.proofs.Steps.{drop-step}
use Rattle.lists.proofs.TableLaws.{length-table, get_or-table}
use Rattle.store.specs.Stores.{is_row}
use Rattle.store.specs.Identity.{identity, stays_from, moves_nothing, MovesSomething}
use Rattle.store.proofs.Formed.{is-row}

-- ---- a walk along a row

-- the variable at i and those after it stay
abbrev pub stays_at : ℕ → List ℕ → Bool
stays_at i row = stays_from (i + 1) (drop i row)

module _ (row : List ℕ) (i : ℕ) where
  pub stays_here : i < length row → get_or row i 0 ≡ 2 * (i + 1) → stays_at i row ≡ stays_at (i + 1) row
  unfolding stays_from
  stays_here h e = rw (drop-step row i 0 h, eq-eqb (get_or row i 0) (2 * (i + 1)) e)

  pub moves-here : i < length row → (get_or row i 0 ≡ 2 * (i + 1) → ⊥) → stays_at i row ≡ false
  unfolding stays_from
  moves-here h e = rw (drop-step row i 0 h, ne_eqb (get_or row i 0) (2 * (i + 1)) e)

  pub stays-end : length row ≤ i → stays_at i row ≡ true
  unfolding stays_from
  stays-end h = rw (drop_of_length-le row {i = i} h)

-- ---- image by image, the first that of variable i

stays-each : (i : ℕ) (row : List ℕ) → stays_from i row ≡ true → (k : ℕ) → k < length row → get_or row k 0 ≡ 2 * (i + k)
unfolding stays_from
stays-each i [] e k h = absurd (not-suc-le-zero h)
stays-each i (image ∷ row) e zero h = omega (arith, eqb-true image (2 * i) (and_l (eqb image (2 * i)) (stays_from (i + 1) row) e))
stays-each i (image ∷ row) e (suc k) h =
    omega (arith, stays-each (i + 1) row (and_r (eqb image (2 * i)) (stays_from (i + 1) row) e) k (le_of_suc-le-suc h))

each-stays : (i : ℕ) (row : List ℕ) → ((k : ℕ) → k < length row → get_or row k 0 ≡ 2 * (i + k)) → stays_from i row ≡ true
unfolding stays_from
each-stays i [] own = refl
each-stays i (image ∷ row) own =
    and_both (eq-eqb image (2 * i) (omega (arith, own 0 (omega arith)))) (each-stays (i + 1) row (λ k h. omega (arith, own (suc k) (omega arith))))

record MovesAt (i : ℕ) (row : List ℕ) : Type 0 where
  k : ℕ
  within : k < length row
  other : get_or row k 0 ≡ 2 * (i + k) → ⊥

moves-at : (i : ℕ) (row : List ℕ) → stays_from i row ≡ false → MovesAt i row
unfolding stays_from
moves-at i [] e = never (sym e)
moves-at i (image ∷ row) e = by (eqb image (2 * i)) refl (moves-at (i + 1) row)
  where
    by : (b : Bool) → eqb image (2 * i) ≡ b → (stays_from (i + 1) row ≡ false → MovesAt (i + 1) row) → MovesAt i (image ∷ row)
    by true q later =
        let m = later (rw q at e) in
        record { k = suc m.k; within = omega (arith, m.within); other = λ own. m.other (omega (arith, own)) }
    by false q later = record { k = 0; within = omega arith; other = λ own. eqb-false image (2 * i) q (omega (arith, own)) }

-- variable by variable
pub moves-nothing-each : (row : List ℕ) → (moves_nothing row ≡ true) ↔ ((i : ℕ) → 1 ≤ i → i ≤ length row → get_or row (i - 1) 0 ≡ 2 * i)
moves-nothing-each row = (
  λ e i low high. omega (arith, stays-each 1 row e (i - 1) (omega arith)),
  λ own. each-stays 1 row (λ k h. let at : k + 1 - 1 ≡ k = omega arith in let image = rw at at (own (k + 1) (omega arith) (omega arith)) in omega (arith, image)),
)

pub moves-something-iff : (row : List ℕ) → (moves_nothing row ≡ false) ↔ MovesSomething row
moves-something-iff row = (
  λ e.
      let m = moves-at 1 row e in
      let at : m.k + 1 - 1 ≡ m.k = omega arith in
      record {
        variable = m.k + 1;
        low = omega arith;
        high = omega (arith, m.within);
        moved = λ own. let same : get_or row m.k 0 ≡ 2 * (m.k + 1) = rw at at own in m.other (omega (arith, same));
      },
  λ m. not_so (moves_nothing row) (λ e. m.moved ((moves-nothing-each row).0 e m.variable m.low m.high)),
)

-- ---- the identity

module _ (n : ℕ) where
  own-image : (k : ℕ) → k < n → get_or (identity n) k 0 ≡ 2 * suc k
  own-image k h = get_or-table n (λ k. 2 * suc k) k 0 h

  pub identity-length : length (identity n) ≡ n
  identity-length = length-table n (λ k. 2 * suc k)

  pub moves-nothing-iff : (row : List ℕ) → length row ≡ n → (moves_nothing row ≡ true) ↔ (row ≡ identity n)
  moves-nothing-iff row size = (
    λ e. ext_get_or 0 row (identity n) (size ∙ sym identity-length) (λ k h. omega (arith, stays-each 1 row e k h, own-image k (omega (arith, size)))),
    λ e. each-stays 1 row (λ k h. let own : get_or row k 0 ≡ 2 * suc k = rw e (own-image k (omega (arith, size))) in omega (arith, own)),
  )

  pub identity-row : is_row n (identity n) ≡ true
  identity-row =
      is-row n (identity n) (record {
        size = identity-length;
        low = λ i h. omega (arith, own-image i h);
        high = λ i h. omega (arith, own-image i h);
        one_place = λ i j h k q. omega (arith, own-image i h, own-image j k);
      })
