-- How much rows add: all stay within the bounds of specs/Bounds.antt. Assumes nothing.
use mathlib.Core.Path.{◌≡◌, refl, ◌∙◌}
use mathlib.Core.Bool.{Bool, true}
use mathlib.Core.Logic.{⊎_elim}
use mathlib.Core.List.{List, [], ◌∷◌}
use Prim.Native.Nat.{ℕ, zero, suc, ◌+◌, ◌-◌, ◌*◌, ◌≤◌}
use native.Mathlib.Omega.{arith}
use lib.Dec.{leb}
use lib.ListN.{length, take, drop, length-append, length-take}
use Rattle.lists.specs.Tests.{all_of}
use Rattle.lists.proofs.Cases.{and_both, lt-or-le}
use Rattle.lists.proofs.Members.{all_append}
use Rattle.store.specs.Stores.{max_variables, rows_of}
use Rattle.lexleader.specs.Rows.{Pair, pairs_of}
use Rattle.lexleader.specs.Made.{later_clauses, pair_clauses, row_clauses, auxiliaries, rows_clauses, all_auxiliaries}
use Rattle.lexleader.proofs.Walk.{pairs-length}
use Rattle.lexleader.proofs.Numbers.{row-few, row-many}

pub auxiliaries-most : (row : List ℕ) → auxiliaries row ≤ length row - 1
unfolding auxiliaries
auxiliaries-most row = omega (arith, pairs-length row)

pub all-auxiliaries-most : (n rows : ℕ) (images : List ℕ) → n ≤ max_variables → all_auxiliaries (rows_of n rows images) ≤ rows * (max_variables - 1)
unfolding all_auxiliaries rows_of
all-auxiliaries-most n zero images small = omega arith
all-auxiliaries-most n (suc rows) images small =
    omega (arith, auxiliaries-most (take n images), length-take n images, all-auxiliaries-most n rows (drop n images) small)

-- of a row of k variables, two or more
pub clauses-most : (e k : ℕ) (row : List ℕ) → length row ≤ k → 2 ≤ k → length (row_clauses e row) ≤ 6 * (k - 1)
clauses-most e k row h many = ⊎_elim (λ l. omega (arith, row-few e row l)) (λ l. omega (arith, row-many e row l, pairs-length row)) (lt-or-le (length (pairs_of row)) 2)

pub all-clauses-most : (e n rows : ℕ) (images : List ℕ) → n ≤ max_variables → length (rows_clauses e (rows_of n rows images)) ≤ rows * (6 * (max_variables - 1))
unfolding rows_clauses rows_of
all-clauses-most e n zero images small = omega arith
all-clauses-most e n (suc rows) images small =
    let row : List ℕ = take n images in
    let after : ℕ = e + auxiliaries row in
    omega (
      arith,
      length-append (row_clauses e row) (rows_clauses after (rows_of n rows (drop n images))),
      clauses-most e max_variables row (omega (arith, length-take n images)) (omega arith),
      all-clauses-most after n rows (drop n images) small,
    )

-- every clause that rows add has at most four literals
abbrev pub is_short : List ℕ → Bool
is_short clause = leb (length clause) 4

later-short : (d : ℕ) (q : Pair) (pairs : List Pair) → all_of is_short (later_clauses d q pairs) ≡ true
unfolding later_clauses all_of
later-short d q [] = refl
later-short d q (p ∷ pairs) = later-short (d + 1) p pairs

row-short : (e : ℕ) (pairs : List Pair) → all_of is_short (pair_clauses e pairs) ≡ true
unfolding pair_clauses all_of
row-short e [] = refl
row-short e (q ∷ []) = refl
row-short e (q ∷ p ∷ pairs) = later-short e p pairs

pub rows_short : (e : ℕ) (rows : List (List ℕ)) → all_of is_short (rows_clauses e rows) ≡ true
unfolding rows_clauses row_clauses all_of
rows_short e [] = refl
rows_short e (row ∷ rows) =
    all_append is_short (row_clauses e row) (rows_clauses (e + auxiliaries row) rows)
    ∙ and_both (row-short e (pairs_of row)) (rows_short (e + auxiliaries row) rows)
