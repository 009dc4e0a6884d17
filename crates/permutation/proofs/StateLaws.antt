-- What two lines state: one law for each way out of `state`. Assumes nothing.
use mathlib.Core.Path.{◌≡◌, sym, ◌∙◌}
use mathlib.Core.Bool.{Bool}
use mathlib.Core.List.{List, [], ◌++◌}
use Prim.Native.Nat.{ℕ, ◌≤◌}
use native.Mathlib.Omega.{arith}
use lib.ListN.{length, take, drop}
use Rattle.std.proofs.Common.{Option, Result, Some, None, Ok, Err}
use Rattle.lists.specs.Tables.{table}
use Rattle.dimacs.specs.Words.{words_at}
use Rattle.store.specs.Refusals.{number_of}
use Rattle.store.specs.declared.refusal.Refusal.{Refusal}
use Rattle.permutation.specs.Lines.{not_number, bad_name, bad_value_after, names_on, values_on}
use Rattle.permutation.specs.Stated.{or_else, stated_by, row_stated, row_of}
use Rattle.permutation.specs.Names.{Listed}
use Rattle.permutation.proofs.InOrder.{names-numbers, values-numbers}
use Rattle.permutation.proofs.RowLaws.{table-back}

module _ (n : ℕ) (names values : List ℕ) where
  pub names-refused : (r : Result (Unit {0}) Refusal) (place : ℕ) → bad_name n (length names) (words_at names 0) ≡ Some place
      → r ≡ or_else (not_number (words_at names 0)) Refusal.NameNotNumber (Err (Refusal.BadName place)) → r ≡ stated_by n names values
  unfolding stated_by
  names-refused r place bad e = e ∙ rw bad

  module _ {marks : List Bool} {order : List ℕ} {count : ℕ} (l : Listed n names marks order count) where
    names-numbered : not_number (words_at names 0) ≡ None
    names-numbered = names-numbers n (length names) (words_at names 0) l.good

    module _ {fault : Option ℕ} (found : fault ≡ bad_value_after (take count order) (length values) [] (words_at values 0)) where
      pub values-refused : (r : Result (Unit {0}) Refusal) (place : ℕ) → fault ≡ Some place
          → r ≡ or_else (not_number (words_at values 0)) Refusal.ValueNotNumber (Err (Refusal.BadValue place)) → r ≡ stated_by n names values
      unfolding stated_by
      values-refused r place bad e = e ∙ rw (names-numbered, l.good, ← l.names, ← found, bad)

      pub values-stated : fault ≡ None → (Ok tt) ≡ stated_by n names values
      unfolding stated_by
      values-stated good =
          let numbers = values-numbers n (take count order) (length values) (words_at values 0) l.named (sym found ∙ good) in
          rw (names-numbered, l.good, numbers, ← l.names, ← found, good)

    pub row-stated : (f : ℕ → ℕ) (old row : List ℕ) {final : List ℕ} → row ≡ table n f ++ drop n old
        → final ≡ row_of n (take count order) (values_on values) ++ drop n row → final ≡ row_stated n names values ++ drop n old
    unfolding row_stated
    row-stated f old row written e = e ∙ rw (l.names, table-back n f old row written)

-- a line that states no permutation is refused with one of 7 to 10
abbrev number_in : Result (Unit {0}) Refusal → ℕ
number_in (Ok tt) = 0
number_in (Err r) = number_of r

pub stated-number : (n : ℕ) (names values : List ℕ) (r : Refusal) → stated_by n names values ≡ Err r → number_of r ≤ 10
unfolding stated_by
stated-number n names values r e =
    rw e at
    (by (not_number (words_at names 0)) (bad_name n (length names) (words_at names 0)) (not_number (words_at values 0))
    (bad_value_after (names_on names) (length values) [] (words_at values 0)))
  where
    by : (a b c d : Option ℕ)
        → number_in (or_else a Refusal.NameNotNumber (or_else b Refusal.BadName (or_else c Refusal.ValueNotNumber (or_else d Refusal.BadValue (Ok tt))))) ≤ 10
    by (Some p) b c d = omega arith
    by None (Some p) c d = omega arith
    by None None (Some p) d = omega arith
    by None None None (Some p) = omega arith
    by None None None None = omega arith
