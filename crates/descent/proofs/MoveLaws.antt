-- One row and the table of an assignment: the table moved into a second one, variable by variable of a span, and this part copied back. Assumes nothing.
use mathlib.Core.Path.{◌≡◌, refl, sym, ap, ◌∙◌}
use mathlib.Core.Bool.{Bool, true, false, not, cond}
use mathlib.Core.List.{List, ◌++◌}
use mathlib.Core.Logic.{⊎_elim}
use Prim.Native.Nat.{ℕ, ◌+◌, ◌-◌, ◌*◌, ◌/◌, ◌≤◌, ◌<◌}
use native.Mathlib.Omega.{arith}
use borrow.Rule.Slice.PartMut.{put_mid}
use lib.ListN.{length, get_or, set, take, drop, length-set, length-drop, take-append-drop}
use lib.Seq.{ext_get_or, get_or-set_other, get_or-take, get_or-drop, length-take-le, drop-drop}
use Rattle.lists.proofs.Cases.{lt-or-le}
use Rattle.lists.proofs.Members.{map_at}
use Rattle.packed.specs.Order.{value_of}
use Rattle.store.specs.Literals.{is_negative}
use Rattle.store.specs.Stores.{is_row}
use Rattle.store.proofs.Formed.{row_of}
use Rattle.lexleader.specs.Models.{literal_value}
use Rattle.lexleader.specs.Rows.{moved}
use Rattle.lexleader.proofs.Images.{length_moved}
use Rattle.valuation.specs.Tables.{bits_in, Table}
use Rattle.valuation.proofs.TableLaws.{TableBegun, begun-bits, begun-table, begun_more}
use Rattle.trial.specs.Spans.{Covers}
use Rattle.trial.proofs.PairLaws.{stays-before, stays_after}
use Rattle.trial.proofs.Theorem.{stays_same}
use Rattle.descent.specs.Moving.{SameBut, MovedSpan}

-- the variables from the first of a span up to number i are moved in `next`, and no others
pub record MovedTo (row : List ℕ) (first : ℕ) (values next : List Bool) (i : ℕ) : Type 0 where
  pub size : length next ≡ length values
  pub begun : TableBegun (moved row (bits_in (length row) values)) next (i + 1)
  pub low : (code : ℕ) → code / 2 ≤ first → get_or next code false ≡ get_or values code false
  pub high : (code : ℕ) → i < code / 2 → get_or next code false ≡ get_or values code false

-- an image is a literal of the row's variables
pub image_within : (row : List ℕ) (i : ℕ) → is_row (length row) row ≡ true → i < length row → get_or row i 0 < 2 * length row + 2
image_within row i good h = omega (arith, (row_of (length row) row good).high i h)

-- a row and a table of as many variables
module _ (row : List ℕ) (values : List Bool) (good : is_row (length row) row ≡ true) (table : Table (length row) values) where
  -- the assignment in the table
  abbrev bits : List Bool
  bits = bits_in (length row) values

  -- the value of a variable's image, which is its own once the row has moved the assignment
  image-is : (i : ℕ) → i < length row → get_or values (get_or row i 0) false ≡ get_or (moved row bits) i false
  unfolding moved
  image-is i h =
      let r = row_of (length row) row good in
      table.value (get_or row i 0) (r.low i h) (r.high i h) ∙ sym (map_at (literal_value (value_of bits)) row i 0 false h)

  -- a literal whose variable stays
  stays-value : (code : ℕ) → 1 ≤ code / 2 → code / 2 ≤ length row → get_or row (code / 2 - 1) 0 ≡ 2 * (code / 2 - 1 + 1)
      → get_or values code false ≡ literal_value (value_of (moved row bits)) code
  unfolding literal_value
  stays-value code low high e =
      let here : 2 * (code / 2 - 1 + 1) ≡ 2 * (code / 2) = omega arith in
      table.value code low high
      ∙ ap (λ (b : Bool). cond (is_negative code) (not b) b) (sym (stays_same row bits (code / 2) low high (e ∙ here)))

  module _ {first end : ℕ} (covers : Covers row first end) where
    pub moved_none : MovedTo row first values values first
    moved_none = record {
      size = refl;
      begun = record {
        value = λ code low high.
            stays-value code low (omega (arith, covers.order, covers.within)) (stays-before covers (code / 2 - 1) (omega arith));
      };
      low = λ code h. refl;
      high = λ code h. refl;
    }

    pub moved_all : (next : List Bool) → MovedTo row first values next end → MovedSpan row first end values next
    moved_all next m = record {
      table = begun-table (length row) (moved row bits) next (length row + 1) (length_moved row bits) (omega arith) whole room;
      bits = begun-bits (length row) (moved row bits) next (length row + 1) (length_moved row bits) (omega arith) whole;
      others = record {
        size = sym m.size;
        within = omega (arith, room, covers.within);
        order = omega (arith, covers.order);
        below = λ k h. sym (m.low k (omega arith));
        above = λ k h. sym (m.high k (omega arith));
      };
    }
      where
        room : 2 * length row + 2 ≤ length next
        room = omega (arith, m.size, table.room)

        whole : TableBegun (moved row bits) next (length row + 1)
        whole = record {
          value = λ code low high.
              ⊎_elim (λ (h : code / 2 < end + 1). m.begun.value code low h)
              (λ (h : end + 1 ≤ code / 2).
              m.high code (omega arith) ∙ stays-value code low (omega arith) (stays_after covers (code / 2 - 1) (omega arith) (omega arith)))
              (lt-or-le (code / 2) (end + 1));
        }

  module _ (first : ℕ) (next : List Bool) (i : ℕ) (m : MovedTo row first values next i) (l : first ≤ i) (h : i < length row) where
    abbrev b : Bool
    b = get_or values (get_or row i 0) false

    abbrev written : List Bool
    written = set (set next (2 * (i + 1)) b) (2 * (i + 1) + 1) (not b)

    -- another variable's literal
    other : (code : ℕ) → (code / 2 ≡ i + 1 → ⊥) → get_or written code false ≡ get_or next code false
    other code k =
        get_or-set_other (set next (2 * (i + 1)) b) (2 * (i + 1) + 1) code (not b) false (λ e. k (omega arith))
        ∙ get_or-set_other next (2 * (i + 1)) code b false (λ e. k (omega arith))

    pub moved_more : MovedTo row first values written (i + 1)
    moved_more =
        let place : i ≡ i + 1 - 1 = omega arith in
        record {
          size = length-set (set next (2 * (i + 1)) b) (2 * (i + 1) + 1) (not b) ∙ length-set next (2 * (i + 1)) b ∙ m.size;
          begun =
              begun_more (moved row bits) next (i + 1) m.begun (omega (arith, m.size, table.room)) b
              (image-is i h ∙ ap (λ (k : ℕ). get_or (moved row bits) k false) place);
          low = λ code k. other code (λ e. omega arith) ∙ m.low code k;
          high = λ code k. other code (λ e. omega arith) ∙ m.high code (omega arith);
        }

-- ---- a part of a table written over that of another

module _ {from to : ℕ} {next values : List Bool} (s : SameBut from to next values) where
  front : take from values ≡ take from next
  front =
      let size = length-take-le from values (omega (arith, s.size, s.within, s.order)) in
      ext_get_or false (take from values) (take from next) (size ∙ sym (length-take-le from next (omega (arith, s.within, s.order))))
      (λ j l. let h : j < from = omega (arith, size) in rw (get_or-take from values j false h, get_or-take from next j false h) (s.below j h))

  behind : drop to values ≡ drop to next
  behind =
      ext_get_or false (drop to values) (drop to next) (length-drop to values ∙ ap (λ (k : ℕ). k - to) s.size ∙ sym (length-drop to next))
      (λ j l. rw (get_or-drop to values j false, get_or-drop to next j false) (s.above (to + j) (omega arith)))

  pub copied : {part : List Bool} → part ≡ take (to - from) (drop from next) → put_mid from (to - from) values part ≡ next
  copied e =
      let end : from + (to - from) ≡ to = omega (arith, s.order) in
      let rest = drop-drop (to - from) from values ∙ rw end (behind ∙ sym (rw end at (drop-drop (to - from) from next))) in
      rw (e, front, rest) (ap (λ (l : List Bool). take from next ++ l) (take-append-drop (to - from) (drop from next)) ∙ take-append-drop from next)
