-- Visiting the variables from the largest down leaves just the marks of those left out. Assumes nothing.
use mathlib.Core.Path.{◌≡◌, refl, sym, ◌∙◌}
use mathlib.Core.Bool.{Bool, true, false, not, ◌&&◌, and-true}
use mathlib.Core.List.{List}
use mathlib.Core.Logic.{◌⊎◌, inl, inr}
use Prim.Native.Nat.{ℕ, ◌+◌, ◌-◌, ◌≤◌, ◌<◌}
use native.Mathlib.Omega.{arith}
use borrow.Author.Tests.{leb-true, le-leb, not-true}
use lib.ListN.{length, get_or, replicate, length-replicate, get_or-replicate}
use lib.Seq.{ext_get_or}
use lib.Dec.{leb}
use Rattle.lists.specs.Tests.{has}
use Rattle.lists.specs.Tables.{table}
use Rattle.lists.proofs.Cases.{never, not_so, and_l, and_r, lt-or-le, eq-or-ne}
use Rattle.lists.proofs.Members.{all_in, all-has, placed}
use Rattle.lists.proofs.TableLaws.{length-table, get_or-table}
use Rattle.store.specs.Stores.{is_row}
use Rattle.cycles.specs.Cycles.{cycle_of, is_largest, left_out}
use Rattle.cycles.specs.Marks.{marks_of, Visited}
use Rattle.store.proofs.Formed.{Row, row_of}
use Rattle.cycles.proofs.Returns.{after-high}
use Rattle.cycles.proofs.Walks.{Reaches, member-reach, reach-trans, reach-sym, reach-member}

-- ---- the largest of a cycle

module _ (n : ℕ) (row : List ℕ) (r : Row n row) (z : ℕ) (low : 1 ≤ z) (high : z ≤ n) where
  -- a larger variable that meets z
  not-largest : (y : ℕ) → z < y → y ≤ n → Reaches row y z → left_out row z ≡ false
  unfolding left_out is_largest
  not-largest y more most reaches =
      let member = reach-member n row r z y low high (reach-sym n row r y z (omega arith) most reaches) in
      let no : is_largest row z ≡ false = not_so (is_largest row z) (λ h. let le = leb-true y z (all-has (λ j. leb j z) (cycle_of row z) y h member) in omega arith) in
      rw no

  largest : ((y : ℕ) → z < y → y ≤ n → Reaches row y z → ⊥) → is_largest row z ≡ true
  unfolding is_largest
  largest none = all_in (λ j. leb j z) (cycle_of row z) 0 (λ i h. le-leb (get_or (cycle_of row z) i 0) z (small (get_or (cycle_of row z) i 0) (placed (cycle_of row z) (get_or (cycle_of row z) i 0) i h refl)))
    where
      small : (y : ℕ) → has (cycle_of row z) y ≡ true → y ≤ z
      small y h =
          let reaches = member-reach row z y h in
          let within : y ≤ n = rw reaches.1 at (after-high n row r reaches.0 z low high) in
          go reaches within (lt-or-le z y)
        where
          go : Reaches row z y → y ≤ n → (z < y) ⊎ (y ≤ z) → y ≤ z
          go reaches within (inl more) = absurd (none y more within (reach-sym n row r z y low high reaches))
          go reaches within (inr l) = l

-- ---- the scan

-- The variables above v have been visited: their marks are right, and those up to v are marked where none above meets them.
pub record Scanned (row : List ℕ) (v : ℕ) (out : List Bool) : Type 0 where
  pub room : length row ≤ length out
  pub done : (x : ℕ) → v < x → x ≤ length row → get_or out (x - 1) false ≡ left_out row x
  pub fresh : (x : ℕ) → 1 ≤ x → x ≤ v → get_or out (x - 1) false ≡ true → (y : ℕ) → v < y → y ≤ length row → Reaches row y x → ⊥
  pub gone : (x : ℕ) → 1 ≤ x → x ≤ v → get_or out (x - 1) false ≡ false → (y : ℕ) × (v < y) × (y ≤ length row) × Reaches row y x

pub scanned-none : (row : List ℕ) (k : ℕ) → k ≡ length row → Scanned row (length row) (replicate k true)
scanned-none row k size = record {
  room = omega (arith, length-replicate k true);
  done = λ x a b. absurd (omega arith);
  fresh = λ x a b h y c d. absurd (omega arith);
  gone = λ x a b h. never (sym h ∙ get_or-replicate k (x - 1) true false (omega arith));
}

module _ (row : List ℕ) (signed : is_row (length row) row ≡ true) (z : ℕ) (low : 1 ≤ z) (high : z ≤ length row) (out out' : List Bool)
    (p : Scanned row z out) (w : Visited row z out out') where
  known : Row (length row) row
  known = row_of (length row) row signed

  -- z was met before: nothing is changed
  passed : get_or out (z - 1) false ≡ false → Scanned row (z - 1) out
  passed h = record {
    room = p.room;
    done = λ x a b. done x a b (eq-or-ne x z);
    fresh = λ x a b k y c d. fresh x a b k y c d (eq-or-ne y z);
    gone = λ x a b k. let t = p.gone x a (omega arith) k in (t.0, omega (arith, t.1), t.2, t.3);
  }
    where
      met : (y : ℕ) × (z < y) × (y ≤ length row) × Reaches row y z
      met = p.gone z low (omega arith) h

      done : (x : ℕ) → z - 1 < x → x ≤ length row → (x ≡ z) ⊎ (x ≡ z → ⊥) → get_or out (x - 1) false ≡ left_out row x
      done x a b (inl q) = rw q (h ∙ sym (not-largest (length row) row known z low high met.0 met.1 met.2 met.3))
      done x a b (inr q) = p.done x (omega arith) b

      fresh : (x : ℕ) → 1 ≤ x → x ≤ z - 1 → get_or out (x - 1) false ≡ true → (y : ℕ) → z - 1 < y → y ≤ length row → (y ≡ z) ⊎ (y ≡ z → ⊥) → Reaches row y x → ⊥
      fresh x a b k y c d (inl q) reaches =
          p.fresh x a (omega arith) k met.0 met.1 met.2 (reach-trans row met.0 z x met.3 (rw q at reaches))
      fresh x a b k y c d (inr q) reaches = p.fresh x a (omega arith) k y (omega arith) d reaches

  -- z is the largest of its cycle, and was gone round
  rounded : get_or out (z - 1) false ≡ true → Scanned row (z - 1) out'
  unfolding left_out
  rounded h = record {
    room = omega (arith, w.room, p.room);
    done = λ x a b. done x a b (eq-or-ne x z);
    fresh = λ x a b k y c d. fresh x a b k y c d (eq-or-ne y z);
    gone = λ x a b k. gone x a b k (get_or out (x - 1) false) refl (has (cycle_of row z) x) refl;
  }
    where
      top : is_largest row z ≡ true
      top = largest (length row) row known z low high (p.fresh z low (omega arith) h)

      other : (x : ℕ) → 1 ≤ x → x ≤ length row → (x ≡ z → ⊥) → get_or out' (x - 1) false ≡ (get_or out (x - 1) false && not (has (cycle_of row z) x))
      other = w.others h

      above : (x : ℕ) → z < x → has (cycle_of row z) x ≡ false
      above x a = not_so (has (cycle_of row z) x) (λ m. let le = leb-true x z (all-has (λ j. leb j z) (cycle_of row z) x (unfold is_largest in top) m) in omega arith)

      done : (x : ℕ) → z - 1 < x → x ≤ length row → (x ≡ z) ⊎ (x ≡ z → ⊥) → get_or out' (x - 1) false ≡ left_out row x
      done x a b (inl q) = rw q (w.own h ∙ rw top)
      done x a b (inr q) =
          other x (omega arith) b q ∙ rw (above x (omega arith)) (and-true (get_or out (x - 1) false) ∙ p.done x (omega arith) b)

      fresh : (x : ℕ) → 1 ≤ x → x ≤ z - 1 → get_or out' (x - 1) false ≡ true → (y : ℕ) → z - 1 < y → y ≤ length row → (y ≡ z) ⊎ (y ≡ z → ⊥) → Reaches row y x → ⊥
      fresh x a b k y c d e reaches =
          let both = sym (other x a (omega arith) (λ q. omega arith)) ∙ k in
          let was = and_l (get_or out (x - 1) false) (not (has (cycle_of row z) x)) both in
          let free = not-true (has (cycle_of row z) x) (and_r (get_or out (x - 1) false) (not (has (cycle_of row z) x)) both) in
          go was free e
        where
          go : get_or out (x - 1) false ≡ true → has (cycle_of row z) x ≡ false → (y ≡ z) ⊎ (y ≡ z → ⊥) → ⊥
          go was free (inl q) = never (sym free ∙ reach-member (length row) row known z x low high (rw q at reaches))
          go was free (inr q) = p.fresh x a (omega arith) was y (omega arith) d reaches

      gone : (x : ℕ) → 1 ≤ x → x ≤ z - 1 → get_or out' (x - 1) false ≡ false → (b : Bool) → get_or out (x - 1) false ≡ b → (m : Bool) → has (cycle_of row z) x ≡ m
          → (y : ℕ) × (z - 1 < y) × (y ≤ length row) × Reaches row y x
      gone x a b k false e m f = let t = p.gone x a (omega arith) e in (t.0, omega (arith, t.1), t.2, t.3)
      gone x a b k true e true f = (z, omega arith, high, member-reach row z x f)
      gone x a b k true e false f = never (sym k ∙ other x a (omega arith) (λ q. omega arith) ∙ rw (e, f))

  pub scanned-more : Scanned row (z - 1) out'
  scanned-more = go (get_or out (z - 1) false) refl
    where
      go : (b : Bool) → get_or out (z - 1) false ≡ b → Scanned row (z - 1) out'
      go true e = rounded e
      go false e = rw (w.idle e) (passed e)

pub scanned-all : (row : List ℕ) (out : List Bool) → length out ≡ length row → Scanned row 0 out → out ≡ marks_of row
unfolding marks_of
scanned-all row out size p =
    ext_get_or false out (table (length row) (λ k. left_out row (k + 1))) (size ∙ sym (length-table (length row) (λ k. left_out row (k + 1))))
    (λ k h.
    let inside : k < length row = omega arith in
    let place : k + 1 - 1 ≡ k = omega arith in
    (rw place at (p.done (k + 1) (omega arith) (omega arith))) ∙ sym (get_or-table (length row) (λ k. left_out row (k + 1)) k false inside))
