-- The x of a row, without the largest variable of each cycle that turns the sign an even number of times: comparing along them decides as the order over all
-- variables does, for every row and every assignment; one that is not moved is none of them, and a row without
-- any moves nothing. Assumes nothing.
use mathlib.Core.Path.{◌≡◌, refl, sym, ap, ◌∙◌}
use mathlib.Core.Bool.{Bool, true, false, cond}
use mathlib.Core.List.{List, [], ◌∷◌}
use Prim.Native.Nat.{ℕ, zero, suc, ◌+◌, ◌-◌, ◌*◌, ◌≤◌, ◌<◌, zero-le, suc-le-suc}
use native.Mathlib.Nat.{add-zero, le_of_suc-le-suc}
use native.Mathlib.Omega.{arith}
use borrow.Author.Tests.{eqb-true}
use lib.ListN.{length, get_or}
use Rattle.lists.specs.Tests.{all_of}
use Rattle.lists.proofs.Cases.{never}
use Rattle.packed.specs.Order.{value_of, first_difference}
use Rattle.store.specs.Literals.{is_literal}
use Rattle.store.specs.Identity.{moves_nothing}
use Rattle.store.proofs.Formed.{Row}
use Rattle.store.proofs.Identity.{moves-nothing-each}
use Rattle.cycles.specs.Cycles.{left_out}
use Rattle.cycles.proofs.Largest.{unmoved-out, all-out}
use Rattle.lexleader.specs.Models.{literal_value}
use Rattle.lexleader.specs.Rows.{moved, lowers, pairs_but, pairs_of, stays, moved_pairs}
use Rattle.lexleader.specs.Deciding.{deciding, lowers_along}
use Rattle.lexleader.specs.Made.{auxiliaries, all_auxiliaries}
use Rattle.lexleader.specs.Longer.{auxiliaries_by}
use Rattle.lexleader.proofs.Pairs.{both}
use Rattle.lexleader.proofs.Along.{Idle, along-but, deciding-but, but-within}
use Rattle.lexleader.proofs.Agree.{left-agrees}

module _ (n : ℕ) (row : List ℕ) (r : Row n row) where
  -- one that is left out has the value of its image where all before it have
  left-idle : (a : List Bool) → Idle (value_of a) (left_out row) 1 row
  left-idle a j h out before =
      let place : 1 + j - 1 ≡ j = omega arith in
      let agree = left-agrees n row r (value_of a) (1 + j) (λ m low high. let index : 1 + (m - 1) ≡ m = omega arith in rw index at (before (m - 1) (omega arith))) in
      rw place (rw place at (agree (omega arith) (omega (arith, r.size)) out))

  module _ (a : List Bool) (size : length a ≡ length row) where
    pub along-pairs : lowers_along (literal_value (value_of a)) (pairs_of row) ≡ lowers row a
    unfolding pairs_of
    along-pairs = along-but (left_out row) row a size (left-idle a)

    pub deciding-pairs : deciding (literal_value (value_of a)) (pairs_of row) ≡ first_difference a (moved row a)
    unfolding pairs_of
    deciding-pairs = deciding-but (left_out row) row a size (left-idle a)

  pub pairs-within : all_of (both (is_literal n)) (pairs_of row) ≡ true
  unfolding pairs_of
  pairs-within = but-within (left_out row) n row r

-- a row that moves nothing has no x
none-but : (out : ℕ → Bool) (i : ℕ) (row : List ℕ) → ((j : ℕ) → j < length row → out (i + j) ≡ true) → pairs_but out i row ≡ []
unfolding pairs_but
none-but out i [] h = refl
none-but out i (y ∷ row) h =
    let here : out i ≡ true = rw add-zero at (h 0 (suc-le-suc zero-le)) in
    rw here (none-but out (i + 1) row (λ j k. let next : i + 1 + j ≡ i + suc j = omega arith in rw next (h (suc j) (suc-le-suc k))))

pub stays-none : (row : List ℕ) → moves_nothing row ≡ true → pairs_of row ≡ []
unfolding pairs_of
stays-none row e = none-but (left_out row) 1 row (λ j h. unmoved-out row (1 + j) ((moves-nothing-each row).0 e (1 + j) (omega arith) (omega arith)))

-- and only such a row
some-but : (out : ℕ → Bool) (i : ℕ) (row : List ℕ) → pairs_but out i row ≡ [] → (j : ℕ) → j < length row → out (i + j) ≡ true
unfolding pairs_but
some-but out i [] e j h = absurd (omega arith)
some-but out i (y ∷ row) e j h = by (out i) refl e (some-but out (i + 1) row) j h
  where
    by : (b : Bool) → out i ≡ b → cond (out i) (pairs_but out (i + 1) row) (record { x = 2 * i; y = y } ∷ pairs_but out (i + 1) row) ≡ []
        → (pairs_but out (i + 1) row ≡ [] → (j : ℕ) → j < length row → out (i + 1 + j) ≡ true) → (j : ℕ) → j < length (y ∷ row) → out (i + j) ≡ true
    by true q e later zero h = rw add-zero q
    by true q e later (suc j) h = let next : i + suc j ≡ i + 1 + j = omega arith in rw next (later (rw q at e) j (le_of_suc-le-suc h))
    by false q e later j h = absurd (omega (arith, ap length (rw q at e)))

pub none_stays : (n : ℕ) (row : List ℕ) → Row n row → pairs_of row ≡ [] → moves_nothing row ≡ true
unfolding pairs_of
none_stays n row r e =
    (moves-nothing-each row).1 (λ i low high. all-out n row r i low (omega (arith, r.size)) (λ j a b.
    let index : 1 + (j - 1) ≡ j = omega arith in
    rw index at (some-but (left_out row) 1 row e (j - 1) (omega (arith, r.size)))))

-- ---- there are no more x than moved variables

fewer-but : (out more : ℕ → Bool) (i : ℕ) (row : List ℕ) → ((j : ℕ) → j < length row → out (i + j) ≡ true → more (i + j) ≡ true)
    → length (pairs_but more i row) ≤ length (pairs_but out i row)
unfolding pairs_but
fewer-but out more i [] h = omega arith
fewer-but out more i (y ∷ row) h =
    go (out i) refl (more i) refl (fewer-but out more (i + 1) row (λ j k. let next : i + 1 + j ≡ i + suc j = omega arith in rw next (h (suc j) (suc-le-suc k))))
  where
    go : (b : Bool) → out i ≡ b → (c : Bool) → more i ≡ c → length (pairs_but more (i + 1) row) ≤ length (pairs_but out (i + 1) row)
        → length (cond c (pairs_but more (i + 1) row) (record { x = 2 * i; y = y } ∷ pairs_but more (i + 1) row))
        ≤ length (cond b (pairs_but out (i + 1) row) (record { x = 2 * i; y = y } ∷ pairs_but out (i + 1) row))
    go true o true m rest = rest
    go true o false m rest = never (sym m ∙ (rw add-zero at (h 0 (suc-le-suc zero-le) (rw add-zero o))))
    go false o true m rest = omega arith
    go false o false m rest = omega arith

pairs-fewer : (row : List ℕ) → length (pairs_of row) ≤ length (moved_pairs row)
unfolding pairs_of moved_pairs stays
pairs-fewer row = fewer-but (stays row) (left_out row) 1 row (λ j h e. unmoved-out row (1 + j) (eqb-true (get_or row (1 + j - 1) 0) (2 * (1 + j)) e))

pub auxiliaries-fewer : (rows : List (List ℕ)) → all_auxiliaries rows ≤ auxiliaries_by moved_pairs rows
unfolding all_auxiliaries auxiliaries auxiliaries_by
auxiliaries-fewer [] = omega arith
auxiliaries-fewer (row ∷ rows) = omega (arith, pairs-fewer row, auxiliaries-fewer rows)
