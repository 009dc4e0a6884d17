-- A table of values: the assignment that it is of, and a table that is made variable by variable. Assumes nothing.
use mathlib.Core.Path.{◌≡◌, refl, sym, ap, ◌∙◌}
use mathlib.Core.Bool.{Bool, false, not}
use mathlib.Core.List.{List, [], ◌∷◌, ◌++◌}
use mathlib.Core.Logic.{⊎_elim}
use Prim.Native.Nat.{ℕ, ◌+◌, ◌-◌, ◌*◌, ◌/◌, ◌%◌, ◌≤◌, ◌<◌}
use native.Mathlib.Numerals.{add-one}
use native.Mathlib.Omega.{arith}
use lib.ListN.{length, get_or, set, length-set}
use lib.Seq.{ext_get_or, get_or-set_same, get_or-set_other}
use Rattle.lists.specs.Tables.{table}
use Rattle.lists.proofs.Cases.{lt-or-le, eq-or-ne}
use Rattle.lists.proofs.TableLaws.{length-table, get_or-table, table-snoc}
use Rattle.packed.specs.Order.{value_of}
use Rattle.lexleader.specs.Models.{literal_value}
use Rattle.valuation.specs.Tables.{bits_in, Table}
use Rattle.valuation.proofs.Values.{negative-value, positive-value}

-- ---- the assignment in a table

module _ (n : ℕ) (values : List Bool) where
  pub length-in : length (bits_in n values) ≡ n
  unfolding bits_in
  length-in = length-table n (λ i. get_or values (2 * i + 2) false)

  bit_in : (i : ℕ) → i < n → get_or (bits_in n values) i false ≡ get_or values (2 * i + 2) false
  unfolding bits_in
  bit_in i h = get_or-table n (λ i. get_or values (2 * i + 2) false) i false h

  pub bits-more : bits_in n values ++ (get_or values (2 * n + 2) false ∷ []) ≡ bits_in (n + 1) values
  unfolding bits_in
  bits-more = rw (add-one n) (sym (table-snoc n (λ i. get_or values (2 * i + 2) false)))

pub bits_none : (values : List Bool) → bits_in 0 values ≡ []
unfolding bits_in table
bits_none values = refl

-- ---- a table that is made

-- the table has the values of the literals whose variables are before i
pub record TableBegun (bits values : List Bool) (i : ℕ) : Type 0 where
  pub value : (code : ℕ) → 1 ≤ code / 2 → code / 2 < i → get_or values code false ≡ literal_value (value_of bits) code

module _ (n : ℕ) (bits values : List Bool) (i : ℕ) (size : length bits ≡ n) (past : n < i) (begun : TableBegun bits values i) where
  pub begun-bits : bits_in n values ≡ bits
  begun-bits =
      ext_get_or false (bits_in n values) bits (length-in n values ∙ sym size)
      (λ j h.
      let inside : j < n = omega (arith, length-in n values) in
      let here : j ≡ (2 * j + 2) / 2 - 1 = omega arith in
      bit_in n values j inside ∙ begun.value (2 * j + 2) (omega arith) (omega arith)
      ∙ sym (positive-value (value_of bits) (2 * j + 2) (get_or bits j false) (ap (λ (k : ℕ). get_or bits k false) here) (λ e. omega arith)))

  pub begun-table : 2 * n + 2 ≤ length values → Table n values
  begun-table room = record { room = room; value = λ code low high. rw begun-bits (begun.value code low (omega arith)) }

module _ (bits values : List Bool) (i : ℕ) (begun : TableBegun bits values i) (room : 2 * i + 1 < length values) (b : Bool) (is : b ≡ value_of bits i) where
  abbrev next : List Bool
  next = set (set values (2 * i) b) (2 * i + 1) (not b)

  odd : get_or next (2 * i + 1) false ≡ literal_value (value_of bits) (2 * i + 1)
  odd =
      let half : i ≡ (2 * i + 1) / 2 = omega arith in
      get_or-set_same (set values (2 * i) b) (2 * i + 1) (not b) false (omega (arith, length-set values (2 * i) b))
      ∙ negative-value (value_of bits) (2 * i + 1) b (is ∙ ap (value_of bits) half) (omega arith)

  even : get_or next (2 * i) false ≡ literal_value (value_of bits) (2 * i)
  even =
      let half : i ≡ 2 * i / 2 = omega arith in
      get_or-set_other (set values (2 * i) b) (2 * i + 1) (2 * i) (not b) false (λ e. omega arith)
      ∙ get_or-set_same values (2 * i) b false (omega arith)
      ∙ positive-value (value_of bits) (2 * i) b (is ∙ ap (value_of bits) half) (λ e. omega arith)

  -- a literal of a variable before i
  early : (code : ℕ) → code / 2 < i → 1 ≤ code / 2 → get_or next code false ≡ literal_value (value_of bits) code
  early code h low =
      get_or-set_other (set values (2 * i) b) (2 * i + 1) code (not b) false (λ e. omega arith)
      ∙ get_or-set_other values (2 * i) code b false (λ e. omega arith)
      ∙ begun.value code low h

  pub begun_more : TableBegun bits next (i + 1)
  begun_more = record {
    value = λ code low high.
        ⊎_elim (λ (h : code / 2 < i). early code h low)
        (λ (h : i ≤ code / 2).
        ⊎_elim (λ (r : code % 2 ≡ 1). let e : code ≡ 2 * i + 1 = omega arith in rw e odd)
        (λ (r : code % 2 ≡ 1 → ⊥). let e : code ≡ 2 * i = omega arith in rw e even)
        (eq-or-ne (code % 2) 1))
        (lt-or-le (code / 2) i);
  }
