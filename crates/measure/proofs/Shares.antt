-- The literals of a row's clauses, and their bytes by the row's pairs and its auxiliaries. A pair is compared by one clause, `-x y` at its end, and but for the last one
-- also stands in the clauses that make its auxiliary; so what the pairs have, were the last one like the others, is what that one has too much and what the
-- clauses have without the auxiliaries. Assumes nothing.
use mathlib.Core.Path.{◌≡◌, refl, sym, ap}
use mathlib.Core.List.{List, [], ◌∷◌}
use Prim.Native.Nat.{ℕ, suc, ◌+◌, ◌-◌, ◌*◌}
use native.Mathlib.Omega.{arith}
use borrow.Author.Tests.{ne_eqb}
use lib.ListN.{length}
use Rattle.lists.specs.Sums.{sum_of}
use Rattle.store.specs.Literals.{opposite_of}
use Rattle.lexleader.specs.Rows.{Pair, pairs_of}
use Rattle.lexleader.specs.Made.{first_six, later_six, later_clauses, pair_clauses, row_clauses, auxiliaries}
use Rattle.measure.specs.Shares.{words_of, literals_for, order_bytes, agree_bytes, pair_bytes, of_last, own_bytes, link_bytes, later_bytes, auxiliary_bytes}

-- ---- literals

later-literals : (d : ℕ) (q : Pair) (pairs : List Pair) → sum_of length (later_clauses d q pairs) ≡ 19 * length pairs
unfolding later_clauses sum_of
later-literals d q [] = refl
later-literals d q (p ∷ pairs) = omega (arith, later-literals (d + 1) p pairs)

pair-literals : (e : ℕ) (pairs : List Pair) → sum_of length (pair_clauses e pairs) ≡ literals_for (length pairs - 1) (length (pair_clauses e pairs))
unfolding pair_clauses sum_of
pair-literals e [] = refl
pair-literals e (q ∷ []) = refl
pair-literals e (q ∷ p ∷ pairs) =
    let some : length (q ∷ p ∷ pairs) - 1 ≡ 0 → ⊥ = λ none. omega arith in
    rw (ne_eqb (length (q ∷ p ∷ pairs) - 1) 0 some) (omega (arith, later-literals e p pairs))

pub row-literals : (e : ℕ) (row : List ℕ) → literals_for (auxiliaries row) (length (row_clauses e row)) ≡ sum_of length (row_clauses e row)
unfolding row_clauses auxiliaries
row-literals e row = sym (pair-literals e (pairs_of row))

-- ---- bytes

module _ (f : Pair → ℕ) where
  pub last_none : of_last f [] ≡ 0
  unfolding of_last
  last_none = refl

  pub last_one : (q : Pair) → of_last f (q ∷ []) ≡ f q
  unfolding of_last
  last_one q = refl

  pub last_more : (q p : Pair) (pairs : List Pair) → of_last f (q ∷ p ∷ pairs) ≡ of_last f (p ∷ pairs)
  unfolding of_last
  last_more q p pairs = refl

-- what a clause of one pair has, and by the table the clauses of an auxiliary
single : (q : Pair) → words_of ((opposite_of q.x ∷ q.y ∷ []) ∷ []) ≡ order_bytes q
unfolding sum_of order_bytes
single q = omega arith

later-six : (d : ℕ) (q p : Pair) → words_of (later_six (d + 1) d q p) ≡ agree_bytes q + order_bytes p + link_bytes (d + 1) d + own_bytes (d + 1)
unfolding sum_of order_bytes agree_bytes link_bytes own_bytes
later-six d q p = omega arith

first-six : (e : ℕ) (q p : Pair) → words_of (first_six e q p) ≡ pair_bytes q + order_bytes p + own_bytes e
unfolding sum_of order_bytes agree_bytes pair_bytes own_bytes
first-six e q p = omega arith

later-words : (d : ℕ) (q : Pair) (pairs : List Pair)
    → words_of (later_clauses d q pairs) + of_last agree_bytes (q ∷ pairs) ≡ agree_bytes q + sum_of pair_bytes pairs + later_bytes d (length pairs)
unfolding later_clauses sum_of pair_bytes later_bytes
later-words d q [] = omega (arith, last_one agree_bytes q)
later-words d q (p ∷ pairs) = omega (arith, later-six d q p, last_more agree_bytes q p pairs, later-words (d + 1) p pairs)

pair-words : (e : ℕ) (pairs : List Pair)
    → words_of (pair_clauses e pairs) + of_last agree_bytes pairs ≡ sum_of pair_bytes pairs + auxiliary_bytes e (length pairs - 1)
unfolding pair_clauses sum_of pair_bytes auxiliary_bytes
pair-words e [] = omega (arith, last_none agree_bytes)
pair-words e (q ∷ []) = omega (arith, single q, last_one agree_bytes q)
pair-words e (q ∷ p ∷ pairs) =
    let more : length (q ∷ p ∷ pairs) - 1 ≡ suc (length pairs) = omega arith in
    omega (arith, first-six e q p, last_more agree_bytes q p pairs, later-words e p pairs, ap (auxiliary_bytes e) more)

pub row_words : (e : ℕ) (row : List ℕ)
    → words_of (row_clauses e row) + of_last agree_bytes (pairs_of row) ≡ sum_of pair_bytes (pairs_of row) + auxiliary_bytes e (auxiliaries row)
unfolding row_clauses auxiliaries
row_words e row = pair-words e (pairs_of row)
