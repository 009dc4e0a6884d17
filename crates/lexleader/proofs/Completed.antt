-- The models of the made formula, over any choice of the rows' x that decides as the order does: just the models of the formula that no row makes smaller, each
-- with one setting. Assumes nothing.
use mathlib.Core.Path.{◌≡◌, refl, sym, ap, ◌∙◌}
use mathlib.Core.Bool.{Bool, true, false, not, ◌&&◌}
use mathlib.Core.List.{List, [], ◌∷◌, ◌++◌, Memᴰ}
use mathlib.Core.Logic.{◌↔◌}
use Prim.Native.Nat.{ℕ, ◌+◌, ◌-◌}
use native.Mathlib.Omega.{arith}
use borrow.Author.Tests.{not-true}
use lib.ListN.{length, length-append}
use Rattle.lists.specs.Tests.{all_of}
use Rattle.lists.proofs.Cases.{and_l, and_r, and_both}
use Rattle.lists.proofs.Tests.{all-mem, mem-all}
use Rattle.packed.specs.Order.{value_of}
use Rattle.store.specs.Literals.{is_literal}
use Rattle.store.specs.Stores.{is_row}
use Rattle.store.proofs.Formed.{Row, row_of}
use Rattle.lexleader.specs.Models.{literal_value, formula_holds, Model}
use Rattle.lexleader.specs.Rows.{Pair, lowers, pairs_of, moved_pairs}
use Rattle.lexleader.specs.Deciding.{lowers_along}
use Rattle.lexleader.specs.Made.{pair_clauses, row_clauses, auxiliaries, rows_clauses, all_auxiliaries, made, made_variables, settings_after, row_settings, settings}
use Rattle.lexleader.specs.Kept.{Completes, Least}
use Rattle.lexleader.specs.Longer.{clauses_by, auxiliaries_by, made_by, variables_by, KeptBy}
use Rattle.lexleader.proofs.Truth.{formula-append, literal-front, formula-front}
use Rattle.lexleader.proofs.Values.{reads, reads-append, reads-behind}
use Rattle.lexleader.proofs.Pairs.{both, pairs-say, along-same, settings-same}
use Rattle.lexleader.proofs.Moved.{along-moved, moved-within}
use Rattle.lexleader.proofs.Remaining.{along-pairs, pairs-within}
use Rattle.lexleader.proofs.Settings.{length-after}

-- the row does not make a smaller
abbrev keeps : List Bool → List ℕ → Bool
keeps a row = not (lowers row a)

least_iff : (rows : List (List ℕ)) (a : List Bool) → (all_of (keeps a) rows ≡ true) ↔ Least rows a
least_iff rows a = (
  λ h row m. not-true (lowers row a) (all-mem (keeps a) m h),
  λ least. mem-all (keeps a) rows (λ row m. ap not (least row m)),
)

and-swap : (a b c d : Bool) → ((a && b) && (c && d)) ≡ ((a && c) && (b && d))
and-swap true true c d = refl
and-swap true false true d = refl
and-swap true false false d = refl
and-swap false b c d = refl

-- ---- any choice of the x

-- the pairs decide, for a row over 1..n, whether it makes an assignment smaller
record Decides (n : ℕ) (row : List ℕ) (pairs : List Pair) : Type 0 where
  within : all_of (both (is_literal n)) pairs ≡ true
  along : (a : List Bool) → length a ≡ n → lowers_along (literal_value (value_of a)) pairs ≡ lowers row a

abbrev DecidesAll : ℕ → List (List ℕ) → (List ℕ → List Pair) → Type 0
DecidesAll n rows pairs = (row : List ℕ) → Memᴰ row rows → Decides n row (pairs row)

settings_by : (List ℕ → List Pair) → List (List ℕ) → List Bool → List Bool
settings_by pairs [] a = []
settings_by pairs (row ∷ rows) a = settings_after (value_of a) true (pairs row) ++ settings_by pairs rows a

length-by : (pairs : List ℕ → List Pair) (rows : List (List ℕ)) (a : List Bool) → length (settings_by pairs rows a) ≡ auxiliaries_by pairs rows
unfolding settings_by auxiliaries_by
length-by pairs [] a = refl
length-by pairs (row ∷ rows) a =
    rw (length-append (settings_after (value_of a) true (pairs row)) (settings_by pairs rows a), length-after (value_of a) true (pairs row), length-by pairs rows a)

-- an assignment a of 1..n with the values t behind it
module _ (n : ℕ) (a t : List Bool) (size : length a ≡ n) where
  row-says : (e : ℕ) (row : List ℕ) (pairs : List Pair) → Decides n row pairs
      → formula_holds (value_of (a ++ t)) (pair_clauses e pairs) ≡ (keeps a row && reads (value_of (a ++ t)) e (settings_after (value_of a) true pairs))
  row-says e row pairs d =
      rw (
        pairs-say (value_of (a ++ t)) e pairs,
        along-same (is_literal n) (value_of (a ++ t)) (value_of a) (literal-front n a t size) pairs d.within,
        d.along a size,
        settings-same (is_literal n) (value_of (a ++ t)) (value_of a) (literal-front n a t size) true pairs d.within,
      )

  rows-say : (pairs : List ℕ → List Pair) (e : ℕ) (rows : List (List ℕ)) → DecidesAll n rows pairs
      → formula_holds (value_of (a ++ t)) (clauses_by pairs e rows) ≡ (all_of (keeps a) rows && reads (value_of (a ++ t)) e (settings_by pairs rows a))
  unfolding clauses_by settings_by all_of formula_holds reads
  rows-say pairs e [] d = refl
  rows-say pairs e (row ∷ rows) d =
      rw (
        formula-append,
        row-says e row (pairs row) (d row (Memᴰ.head refl)),
        rows-say pairs (e + (length (pairs row) - 1)) rows (λ other m. d other (Memᴰ.tail m)),
        reads-append,
        length-after,
      )
      (and-swap (keeps a row) (reads (value_of (a ++ t)) e (settings_after (value_of a) true (pairs row))) (all_of (keeps a) rows) (reads (value_of (a ++ t)) (e + (length (pairs row) - 1)) (settings_by pairs rows a)))

module _ (n : ℕ) (formula rows : List (List ℕ)) (literals : all_of (all_of (is_literal n)) formula ≡ true) (pairs : List ℕ → List Pair) (d : DecidesAll n rows pairs) where
  made-says : (a t : List Bool) → length a ≡ n
      → formula_holds (value_of (a ++ t)) (made_by pairs n formula rows)
      ≡ (formula_holds (value_of a) formula && (all_of (keeps a) rows && reads (value_of (a ++ t)) (n + 1) (settings_by pairs rows a)))
  unfolding made_by
  made-says a t size =
      rw (formula-append, formula-front n a t size formula literals, rows-say n a t size pairs (n + 1) rows d)

  -- t makes a model of the made formula of a
  abbrev CompletesBy : List Bool → List Bool → Type 0
  CompletesBy a t = Model (variables_by pairs n rows) (made_by pairs n formula rows) (a ++ t)

  completes-by : (a t : List Bool) → length a ≡ n → CompletesBy a t ↔ (Model n formula a × Least rows a × (t ≡ settings_by pairs rows a))
  unfolding variables_by
  completes-by a t size = (to, from)
    where
      to : CompletesBy a t → Model n formula a × Least rows a × (t ≡ settings_by pairs rows a)
      to c =
          let F : Bool = formula_holds (value_of a) formula in
          let K : Bool = all_of (keeps a) rows in
          let R : Bool = reads (value_of (a ++ t)) (n + 1) (settings_by pairs rows a) in
          let all : (F && (K && R)) ≡ true = sym (made-says a t size) ∙ c.holds in
          let rest : (K && R) ≡ true = and_r F (K && R) all in
          let count : length t ≡ length (settings_by pairs rows a) = omega (arith, simp length-append at c.size, length-by pairs rows a) in
          let set : t ≡ settings_by pairs rows a = (reads-behind n a t (settings_by pairs rows a) size count).0 (and_r K R rest) in
          (record { size = size; holds = and_l F (K && R) all }, (least_iff rows a).0 (and_l K R rest), set)

      from : Model n formula a × Least rows a × (t ≡ settings_by pairs rows a) → CompletesBy a t
      from (m, least, e) =
          let count : length t ≡ length (settings_by pairs rows a) = ap length e in
          let set = (reads-behind n a t (settings_by pairs rows a) size count).1 e in
          record {
            size = omega (arith, length-append a t, length-by pairs rows a);
            holds = made-says a t size ∙ and_both m.holds (and_both ((least_iff rows a).1 least) set);
          }

-- ---- the made formula: the x are what is left of each cycle

clauses-are : (e : ℕ) (rows : List (List ℕ)) → clauses_by pairs_of e rows ≡ rows_clauses e rows
unfolding clauses_by rows_clauses row_clauses auxiliaries
clauses-are e [] = refl
clauses-are e (row ∷ rows) = rw (clauses-are (e + (length (pairs_of row) - 1)) rows)

auxiliaries-are : (rows : List (List ℕ)) → auxiliaries_by pairs_of rows ≡ all_auxiliaries rows
unfolding auxiliaries_by all_auxiliaries auxiliaries
auxiliaries-are [] = refl
auxiliaries-are (row ∷ rows) = rw (auxiliaries-are rows)

settings-are : (rows : List (List ℕ)) (a : List Bool) → settings_by pairs_of rows a ≡ settings rows a
unfolding settings_by settings row_settings
settings-are [] a = refl
settings-are (row ∷ rows) a = rw (settings-are rows a)

module _ (n : ℕ) (formula rows : List (List ℕ)) (literals : all_of (all_of (is_literal n)) formula ≡ true) (permutations : all_of (is_row n) rows ≡ true) where
  row_in : (row : List ℕ) → Memᴰ row rows → Row n row
  row_in row m = row_of n row (all-mem (is_row n) m permutations)

  shorter : DecidesAll n rows pairs_of
  shorter row m =
      let r = row_in row m in
      record { within = pairs-within n row r; along = λ a size. along-pairs n row r a (size ∙ sym r.size) }

  pub completes-iff : (a t : List Bool) → length a ≡ n → Completes n formula rows a t ↔ (Model n formula a × Least rows a × (t ≡ settings rows a))
  unfolding made_by made variables_by made_variables
  completes-iff a t size = rw (clauses-are, auxiliaries-are, settings-are) at (completes-by n formula rows literals pairs_of shorter a t size)

  -- ---- the longer form: the x are all moved variables

  longer : DecidesAll n rows moved_pairs
  longer row m =
      let r = row_in row m in
      record { within = moved-within n row r; along = λ a size. along-moved row a (size ∙ sym r.size) }

  pub longer-iff : (a : List Bool) → KeptBy moved_pairs n formula rows a ↔ (Model n formula a × Least rows a)
  longer-iff a = (
    λ k. (k.plain, ((completes-by n formula rows literals moved_pairs longer a k.setting k.plain.size).0 k.completes).1),
    λ (m, least). record {
      plain = m;
      setting = settings_by moved_pairs rows a;
      completes = (completes-by n formula rows literals moved_pairs longer a (settings_by moved_pairs rows a) m.size).1 (m, least, refl);
    },
  )
