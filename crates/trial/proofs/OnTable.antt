-- A trial on the table of an assignment: the values that it reads are there, and what it says of that assignment. Assumes nothing.
use mathlib.Core.Path.{◌≡◌, sym, ◌∙◌}
use mathlib.Core.Bool.{Bool, true}
use mathlib.Core.List.{List, Memᴰ}
use Prim.Native.Nat.{ℕ, ◌<◌}
use native.Mathlib.Omega.{arith}
use lib.ListN.{length}
use Rattle.lists.proofs.Cases.{and_l, and_r}
use Rattle.lists.proofs.Tests.{all-mem}
use Rattle.packed.specs.Order.{value_of}
use Rattle.store.specs.Literals.{is_literal}
use Rattle.store.specs.Stores.{is_row}
use Rattle.store.proofs.FormLaws.{literal-low, literal-high}
use Rattle.store.proofs.Formed.{row_of}
use Rattle.lexleader.specs.Models.{literal_value}
use Rattle.lexleader.specs.Rows.{Pair, moved_pairs}
use Rattle.lexleader.specs.Deciding.{deciding, lowers_along, SameAlong}
use Rattle.lexleader.proofs.Pairs.{both}
use Rattle.lexleader.proofs.Moved.{moved-within}
use Rattle.valuation.specs.Tables.{by_code, bits_in, Table}
use Rattle.valuation.proofs.TableLaws.{length-in}
use Rattle.trial.specs.Answer.{Answers}
use Rattle.trial.specs.Spans.{placed}
use Rattle.trial.proofs.PairLaws.{placed-all}
use Rattle.trial.proofs.Theorem.{trial-answers}

module _ (n : ℕ) (row : List ℕ) (values : List Bool) (good : is_row n row ≡ true) (table : Table n values) where
  -- both literals of a pair are literals of 1..n
  literals : (q : Pair) → Memᴰ q (moved_pairs row) → (is_literal n q.x ≡ true) × (is_literal n q.y ≡ true)
  unfolding both
  literals q m =
      let l = all-mem (both (is_literal n)) m (moved-within n row (row_of n row good)) in
      (and_l (is_literal n q.x) (is_literal n q.y) l, and_r (is_literal n q.x) (is_literal n q.y) l)

  place : (code : ℕ) → is_literal n code ≡ true → code < length values
  place code l = omega (arith, literal-high n code l, table.room)

  pub table-places : placed values (moved_pairs row) ≡ true
  table-places = placed-all values (moved_pairs row) (λ q m. (place q.x (literals q m).0, place q.y (literals q m).1))

  is : (code : ℕ) → is_literal n code ≡ true → by_code values code ≡ literal_value (value_of (bits_in n values)) code
  is code l = table.value code (literal-low n code l) (literal-high n code l)

  pub table_same : SameAlong (moved_pairs row) (by_code values) (literal_value (value_of (bits_in n values)))
  table_same q m = (is q.x (literals q m).0, is q.y (literals q m).1)

  pub table-answers : Answers row (bits_in n values) (lowers_along (by_code values) (moved_pairs row)) (deciding (by_code values) (moved_pairs row))
  table-answers = trial-answers row (bits_in n values) (length-in n values ∙ sym (row_of n row good).size) (by_code values) table_same
