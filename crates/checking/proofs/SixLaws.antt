-- The six clauses of an auxiliary at once: what they say, and the range of their literals. Assumes nothing.
use mathlib.Core.Path.{◌≡◌, refl, sym}
use mathlib.Core.Bool.{Bool, true, false, not, cond, ◌&&◌, ◌||◌, beq, and-true, or-false}
use mathlib.Core.List.{List, []}
use Prim.Native.Nat.{ℕ, ◌+◌, ◌-◌, ◌*◌, ◌%◌, ◌<◌}
use native.Mathlib.Omega.{arith}
use borrow.Author.Tests.{ne_eqb}
use lib.Dec.{eqb}
use lib.ListN.{length, get_or}
use Rattle.lists.specs.Tests.{any_of, all_of}
use Rattle.lists.proofs.Cases.{never}
use Rattle.lists.proofs.Members.{all-at}
use Rattle.store.specs.Literals.{opposite_of, is_literal}
use Rattle.store.proofs.FormLaws.{literal-low, literal-high, literal-within}
use Rattle.lexleader.specs.Models.{literal_value, clause_holds, formula_holds}
use Rattle.lexleader.specs.Rows.{Pair}
use Rattle.lexleader.specs.Made.{agrees}
use Rattle.lexleader.specs.Clause.{column_of, pair_at}
use Rattle.lexleader.specs.Places.{six_at}
use Rattle.lexleader.specs.declared.places.Place.{Place}
use Rattle.lexleader.proofs.Truth.{value-opposite}
use Rattle.checking.specs.SixClauses.{LiteralsWithin, ordered, auxiliary_due}

-- ---- what they say, by cases: g is the value of the auxiliary before, e its own, x and y those of its pair, and m says that the next one is ordered

first_says : (e x y m : Bool)
    → ((not x || y)
    && ((not e || (not x || y))
    && ((not e || (x || not y))
    && ((e || (x || y))
    && ((e || (not x || not y))
    && ((not e || m) && true))))))
    ≡ cond e (beq x y && m) (not (beq x y) && (not x || y))
first_says true true true m = and-true m
first_says true true false m = refl
first_says true false true m = refl
first_says true false false m = and-true m
first_says false true true m = refl
first_says false true false m = refl
first_says false false true m = refl
first_says false false false m = refl

later-says : (g e x y m : Bool)
    → ((not e || g)
    && ((not e || (not x || y))
    && ((not e || (x || not y))
    && ((e || (not g || (x || y)))
    && ((e || (not g || (not x || not y)))
    && ((not e || m) && true))))))
    ≡ cond e (g && beq x y && m) (not (g && beq x y) && true)
later-says true true true true m = and-true m
later-says true true true false m = refl
later-says true true false true m = refl
later-says true true false false m = and-true m
later-says true false true true m = refl
later-says true false true false m = refl
later-says true false false true m = refl
later-says true false false false m = refl
later-says false true x y m = refl
later-says false false x y m = refl

module _ (v : ℕ → Bool) (row : List ℕ) (p : Place) where
  pub six-say : formula_holds v (six_at row p)
      ≡ cond (literal_value v (2 * p.auxiliary)) (auxiliary_due v row p && ordered v (pair_at row p.next)) (not (auxiliary_due v row p) && (not (eqb p.j 1) || ordered v (pair_at row p.index)))
  unfolding formula_holds clause_holds all_of any_of six_at auxiliary_due ordered agrees
  six-say = go (eqb p.j 1)
    where
      e : Bool
      e = literal_value v (2 * p.auxiliary)

      before : Bool
      before = literal_value v (2 * (p.auxiliary - 1))

      x : Bool
      x = literal_value v (2 * (p.index + 1))

      y : Bool
      y = literal_value v (get_or row p.index 0)

      next : Bool
      next = ordered v (pair_at row p.next)

      go : (first : Bool) → formula_holds v (column_of first p.auxiliary (pair_at row p.index) (pair_at row p.next))
          ≡ cond e ((first || before) && beq x y && next) (not ((first || before) && beq x y) && (not first || (not x || y)))
      go true = simp (value-opposite v, or-false) (first_says e x y next)
      go false = simp (value-opposite v, or-false) (later-says before e x y next)

-- ---- the range of their literals

-- both literals of a pair are of the variables 1..n
pub record PairWithin (n : ℕ) (q : Pair) : Type 0 where
  pub x : is_literal n q.x ≡ true
  pub y : is_literal n q.y ≡ true

-- literal j of clause k of the table
in_table : (n : ℕ) (table : List (List ℕ)) → LiteralsWithin n table → (k j : ℕ) → k < length table → j < length (get_or table k [])
    → is_literal n (get_or (get_or table k []) j 0) ≡ true
in_table n table h k j l m = all-at (is_literal n) (get_or table k []) 0 (all-at (all_of (is_literal n)) table [] h k l) j m

-- a variable's literal is of 1..n where its opposite is
by-opposite : (n i : ℕ) → is_literal n (opposite_of (2 * i)) ≡ true → is_literal n (2 * i) ≡ true
by-opposite n i h =
    let odd : opposite_of (2 * i) ≡ 2 * i + 1 = rw (ne_eqb (2 * i % 2) 1 (λ z. omega arith)) in
    let low = literal-low n (opposite_of (2 * i)) h in
    let high = literal-high n (opposite_of (2 * i)) h in
    literal-within n (2 * i) (omega arith) (omega arith)

module _ (n : ℕ) (row : List ℕ) (p : Place) (h : LiteralsWithin n (six_at row p)) where
  abbrev table : Bool → List (List ℕ)
  table first = column_of first p.auxiliary (pair_at row p.index) (pair_at row p.next)

  within : LiteralsWithin n (table (eqb p.j 1))
  unfolding six_at
  within = h

  pub own-within : is_literal n (2 * p.auxiliary) ≡ true
  own-within = go (eqb p.j 1) within
    where
      go : (first : Bool) → LiteralsWithin n (table first) → is_literal n (2 * p.auxiliary) ≡ true
      go true w = in_table n (table true) w 3 0 (omega arith) (omega arith)
      go false w = in_table n (table false) w 3 0 (omega arith) (omega arith)

  pub before-within : (p.j ≡ 1 → ⊥) → is_literal n (2 * (p.auxiliary - 1)) ≡ true
  before-within later = go (eqb p.j 1) (ne_eqb p.j 1 later) within
    where
      go : (first : Bool) → first ≡ false → LiteralsWithin n (table first) → is_literal n (2 * (p.auxiliary - 1)) ≡ true
      go true e w = never (sym e)
      go false e w = in_table n (table false) w 0 1 (omega arith) (omega arith)

  pub pair-within : PairWithin n (pair_at row p.index)
  pair-within = go (eqb p.j 1) within
    where
      go : (first : Bool) → LiteralsWithin n (table first) → PairWithin n (pair_at row p.index)
      go true w = record { x = in_table n (table true) w 3 1 (omega arith) (omega arith); y = in_table n (table true) w 3 2 (omega arith) (omega arith) }
      go false w = record { x = in_table n (table false) w 3 2 (omega arith) (omega arith); y = in_table n (table false) w 3 3 (omega arith) (omega arith) }

  pub next-within : PairWithin n (pair_at row p.next)
  next-within = go (eqb p.j 1) within
    where
      go : (first : Bool) → LiteralsWithin n (table first) → PairWithin n (pair_at row p.next)
      go true w = record { x = by-opposite n (p.next + 1) (in_table n (table true) w 5 1 (omega arith) (omega arith)); y = in_table n (table true) w 5 2 (omega arith) (omega arith) }
      go false w = record { x = by-opposite n (p.next + 1) (in_table n (table false) w 5 1 (omega arith) (omega arith)); y = in_table n (table false) w 5 2 (omega arith) (omega arith) }
