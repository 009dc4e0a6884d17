-- The walk of a line of values, each of which uses a name and is put in the row: what is known at each place. Assumes nothing.
use mathlib.Core.Path.{◌≡◌, refl, sym, ◌∙◌}
use mathlib.Core.Bool.{Bool, true, false, not}
use mathlib.Core.List.{List, [], ◌∷◌, ◌++◌}
use Prim.Native.Nat.{ℕ, suc, ◌+◌, ◌-◌, ◌*◌, ◌≤◌, ◌<◌}
use native.Mathlib.Omega.{arith}
use borrow.Author.Tests.{not-true, eqb-true}
use lib.ListN.{length, get_or, set, take, drop, drop_of_length-le}
use lib.Dec.{eqb}
use Rattle.std.proofs.Common.{Some, None}
use Rattle.lists.specs.Tests.{any_of, has, distinct}
use Rattle.lists.specs.Tables.{table}
use Rattle.lists.proofs.Cases.{never, and_l, and_r, or_cases}
use Rattle.lists.proofs.Members.{has-head}
use Rattle.lists.proofs.Steps.{drop-step}
use Rattle.dimacs.specs.Words.{Piece, words_at}
use Rattle.dimacs.specs.declared.Number.{Number}
use Rattle.dimacs.proofs.WordLaws.{piece_at}
use Rattle.store.specs.Literals.{code_of, is_literal}
use Rattle.store.specs.Numerals.{code_in}
use Rattle.permutation.specs.Lines.{bad_value_after, values_on}
use Rattle.permutation.specs.Stated.{row_of}
use Rattle.permutation.specs.Names.{Named, Marks}
use Rattle.permutation.proofs.Lists.{no_longer}
use Rattle.permutation.proofs.Walks.{Word, codes_from}
use Rattle.permutation.proofs.Marks.{is_free, free-none, free_more}
use Rattle.permutation.proofs.NameLaws.{Passes}
use Rattle.permutation.proofs.InOrder.{named-few}
use Rattle.permutation.proofs.Faults.{value-few, value-end, value-outside, value-taken, value_on}
use Rattle.permutation.proofs.RowLaws.{Placing, placing-none, placing-name, placing-more, placing-all}

-- the values before `at` have names as sizes that all differ, as many as `used` says, the other names are marked, the line's first bad value is the first from
-- `at` on, and each image is among the names and values that are left or in its place
pub record Using (n : ℕ) (names line final : List ℕ) (free : List Bool) (row : List ℕ) (used at : ℕ) : Type 0 where
  pub passed : List ℕ
  pub fault : bad_value_after names (length line) [] (words_at line 0) ≡ bad_value_after names (length line) passed (words_at line at)
  pub marked : Marks (is_free names passed) free
  pub many : used ≡ length passed
  pub differ : distinct passed ≡ true
  pub among : (v : ℕ) → has passed v ≡ true → has names v ≡ true
  pub placing : Placing n final (drop used names) (codes_from line at) row

-- for a value that is free a name is left, and both are in 1..n
pub record Step (n : ℕ) (names : List ℕ) (used value : ℕ) : Type 0 where
  pub left : used < length names
  pub most : length names ≤ n
  pub name-low : 1 ≤ get_or names used 0
  pub name-high : get_or names used 0 ≤ n
  pub value_low : 1 ≤ value
  pub value-high : value ≤ n

module _ {n : ℕ} {names : List ℕ} (named : Named n names) where
  pub using-none : (line : List ℕ) (free : List Bool) (row : List ℕ) → Marks (has names) free → n ≤ length row
      → take n row ≡ table n (λ k. 2 * suc k) → Using n names line (row_of n names (values_on line) ++ drop n row) free row 0 0
  unfolding values_on any_of distinct
  using-none line free row m fits e = record {
    passed = [];
    fault = refl;
    marked = free-none names free m;
    many = refl;
    differ = refl;
    among = λ v h. never h;
    placing = placing-none n names (codes_from line 0) row named fits e;
  }

  module _ {line final : List ℕ} {free : List Bool} {row : List ℕ} {used at : ℕ} (u : Using n names line final free row used at) where
    pub using-few : words_at line at ≡ [] → used < length names → bad_value_after names (length line) [] (words_at line 0) ≡ Some (length line)
    using-few e h = u.fault ∙ value-few names (length line) u.passed e (omega (arith, u.many))

    pub using-all : words_at line at ≡ [] → length names ≤ used
        → (bad_value_after names (length line) [] (words_at line 0) ≡ None) × (row ≡ final)
    using-all e h = (
      u.fault ∙ value-end names (length line) u.passed e (omega (arith, u.many)),
      placing-all u.placing (drop_of_length-le names h),
    )

    module _ {w : Piece} {rest : List Piece} (e : words_at line at ≡ w ∷ rest) where
      pub using-outside : is_literal n (code_in w) ≡ false → bad_value_after names (length line) [] (words_at line 0) ≡ Some w.place
      using-outside i = u.fault ∙ value-outside names (length line) u.passed e n named i

      pub using-taken : (value : ℕ) → Passes (is_literal n) (code_in w) value → get_or free value false ≡ false
          → bad_value_after names (length line) [] (words_at line 0) ≡ Some w.place
      using-taken value p f = u.fault ∙ value-taken names (length line) u.passed e n value p (sym (u.marked.is value) ∙ f)

    module _ (value : ℕ) (f : get_or free value false ≡ true) where
      unused : is_free names u.passed value ≡ true
      unused = sym (u.marked.is value) ∙ f

      differ-more : distinct (value ∷ u.passed) ≡ true
      unfolding distinct
      differ-more = rw (not-true (has u.passed value) (and_r (has names value) (not (has u.passed value)) unused)) u.differ

      among-more : (v : ℕ) → has (value ∷ u.passed) v ≡ true → has names v ≡ true
      unfolding any_of
      among-more v h =
          or_cases (eqb value v) (has u.passed v) h
          (λ q. rw (← (eqb-true value v q)) (and_l (has names value) (not (has u.passed value)) unused))
          (u.among v)

      left : used < length names
      left = omega (arith, no_longer (value ∷ u.passed) names differ-more among-more, u.many)

      next-name : drop used names ≡ get_or names used 0 ∷ drop (used + 1) names
      next-name = drop-step names used 0 left

      pub using-step : Step n names used value
      using-step =
          let name = placing-name u.placing next-name in
          let free : has names value ≡ true = among-more value (has-head value u.passed) in
          record {
            left = left;
            most = named-few named;
            name-low = name.0;
            name-high = name.1;
            value_low = named.low value free;
            value-high = named.high value free;
          }

      pub using-more : {place next : ℕ} {x : Number} → Word line at place x next → Passes (is_literal n) (code_in (piece_at line place)) value → value < 513
          → Using n names line final (set free value false) (set row (get_or names used 0 - 1) (code_of value x.negative)) (used + 1) next
      using-more {place} {next} {x} w p small =
          let size : value ≡ x.size = sym p.is ∙ w.size in
          let code : code_in (piece_at line place) ≡ code_of value x.negative = rw size w.code in
          record {
            passed = value ∷ u.passed;
            fault = u.fault ∙ value_on names (length line) u.passed w.words n value p unused;
            marked = free_more names u.passed free value u.marked small;
            many = omega (arith, u.many);
            differ = differ-more;
            among = among-more;
            placing = placing-more u.placing next-name (rw (w.words, code));
          }
