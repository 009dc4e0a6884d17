-- What is read from the table by code: a literal of 1..m has a place there, and its value is the one that it has in every assignment of the words that has its
-- variable. Assumes nothing.
use Rattle.std.specs.List.{list_any, All}
use mathlib.Core.Path.{◌≡◌, refl, sym, ap₂, ◌∙◌}
use mathlib.Core.Bool.{Bool, true, not, cond, ◌&&◌, ◌||◌, beq}
use mathlib.Core.List.{List, [], ◌∷◌}
use Prim.Native.Nat.{ℕ, ◌+◌, ◌*◌, ◌/◌, ◌≤◌, ◌<◌}
use native.Mathlib.Omega.{arith}
use lib.Dec.{eqb}
use lib.ListN.{length, get_or}
use Rattle.lists.specs.Tests.{any_of, all_of}
use Rattle.lists.proofs.Cases.{and_l, and_r}
use Rattle.lists.proofs.Members.{all-at}
use Rattle.packed.specs.Words.{bits_of}
use Rattle.packed.specs.Order.{value_of}
use Rattle.packed.proofs.Bits.{value-is}
use Rattle.store.specs.Literals.{is_literal}
use Rattle.store.specs.Stores.{is_row}
use Rattle.store.proofs.FormLaws.{literal-low, literal-high, literal-within}
use Rattle.store.proofs.Formed.{row_of}
use Rattle.lexleader.specs.Models.{literal_value, clause_holds, formula_holds}
use Rattle.lexleader.specs.Made.{agrees}
use Rattle.lexleader.specs.Clause.{pair_at}
use Rattle.lexleader.specs.Places.{six_at}
use Rattle.lexleader.specs.declared.places.Place.{Place}
use Rattle.valuation.specs.Tables.{by_code}
use Rattle.checking.specs.Reading.{TableOf}
use Rattle.checking.specs.SixClauses.{LiteralsWithin, ordered, auxiliary_due}
use Rattle.checking.proofs.SixLaws.{PairWithin, six-say, own-within}

module _ {m : ℕ} {values : List Bool} {a : List ℕ} (t : TableOf m values a) where
  place : (code : ℕ) → is_literal m code ≡ true → code < length values
  place code l = omega (arith, literal-high m code l, t.table.room)

  read : (n code : ℕ) → is_literal m code ≡ true → is_literal n code ≡ true → by_code values code ≡ literal_value (value_of (bits_of n a)) code
  unfolding literal_value
  read n code l k =
      let low = literal-low m code l in
      let high = literal-high m code l in
      let same : value_of (bits_of m a) (code / 2) ≡ value_of (bits_of n a) (code / 2) =
      sym (value-is m a (code / 2) low high) ∙ value-is n a (code / 2) low (literal-high n code k) in
      t.table.value code low high ∙ rw (t.bits, same)

  -- a clause
  pub clause-places : (clause : List ℕ) → all_of (is_literal m) clause ≡ true → All (λ code. code < length values) clause
  clause-places clause good i d h = place (get_or clause i d) (all-at (is_literal m) clause d good i h)

  pub read-clause : (n : ℕ) (clause : List ℕ) → all_of (is_literal m) clause ≡ true → all_of (is_literal n) clause ≡ true
      → list_any (by_code values) clause ≡ clause_holds (value_of (bits_of n a)) clause
  unfolding clause_holds any_of all_of
  read-clause n [] l k = refl
  read-clause n (code ∷ clause) l k =
      ap₂ ◌||◌ (read n code (and_l (is_literal m code) (all_of (is_literal m) clause) l) (and_l (is_literal n code) (all_of (is_literal n) clause) k))
      (read-clause n clause (and_r (is_literal m code) (all_of (is_literal m) clause) l) (and_r (is_literal n code) (all_of (is_literal n) clause) k))

-- a variable of a row and its image
module _ (row : List ℕ) (good : is_row (length row) row ≡ true) {values : List Bool} {a : List ℕ} (t : TableOf (length row) values a) (i : ℕ) (h : i < length row) where
  within : PairWithin (length row) (pair_at row i)
  within =
      let r = row_of (length row) row good in
      record { x = literal-within _ (2 * (i + 1)) (omega arith) (omega arith); y = literal-within _ (get_or row i 0) (r.low i h) (r.high i h) }

  pub pair-places : (i < length row) × (2 * (i + 1) < length values) × (get_or row i 0 < length values)
  pair-places = (h, place t (2 * (i + 1)) within.x, place t (get_or row i 0) within.y)

  module _ (n : ℕ) (w : PairWithin n (pair_at row i)) where
    x : by_code values (2 * (i + 1)) ≡ literal_value (value_of (bits_of n a)) (2 * (i + 1))
    x = read t n (2 * (i + 1)) within.x w.x

    y : by_code values (get_or row i 0) ≡ literal_value (value_of (bits_of n a)) (get_or row i 0)
    y = read t n (get_or row i 0) within.y w.y

    -- b is what the code answers
    pub read-agrees : (b : Bool) → b ≡ beq (by_code values (2 * (i + 1))) (by_code values (get_or row i 0)) → b ≡ agrees (value_of (bits_of n a)) (pair_at row i)
    unfolding agrees
    read-agrees b e = e ∙ ap₂ beq x y

    pub read-ordered : (b : Bool) → b ≡ (not (by_code values (2 * (i + 1))) || by_code values (get_or row i 0)) → b ≡ ordered (value_of (bits_of n a)) (pair_at row i)
    unfolding ordered
    read-ordered b e = e ∙ ap₂ (λ (u v : Bool). not u || v) x y

-- the six clauses of the auxiliary at a place, by what was read: its own value, and whether it is due
module _ (a row : List ℕ) (p : Place) {own due : Bool}
    (reads : (n : ℕ) → p.auxiliary ≤ n → own ≡ literal_value (value_of (bits_of n a)) (2 * p.auxiliary))
    (is-due : (n : ℕ) → LiteralsWithin n (six_at row p) → due ≡ auxiliary_due (value_of (bits_of n a)) row p) where
  pub six-read : (n : ℕ) → LiteralsWithin n (six_at row p) → let v = value_of (bits_of n a) in
      formula_holds v (six_at row p)
      ≡ cond own (due && ordered v (pair_at row p.next)) (not due && (not (eqb p.j 1) || ordered v (pair_at row p.index)))
  six-read n within =
      rw (reads n (omega (arith, literal-high _ _ (own-within n row p within))), is-due n within) (six-say (value_of (bits_of n a)) row p)
