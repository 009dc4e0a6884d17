-- Document 02, CR 6: `TurnsSigns` holds. Assumes nothing.
use mathlib.Core.Path.{◌≡◌, refl, sym, ap, ◌∙◌}
use mathlib.Core.Bool.{Bool, true, false, not, cond, beq}
use mathlib.Core.List.{List, [], ◌∷◌, Memᴰ}
use mathlib.Core.Logic.{◌↔◌}
use Prim.Native.Nat.{ℕ, zero, suc, ◌+◌, ◌-◌, ◌*◌, ◌%◌, ◌≤◌, ◌<◌}
use native.Mathlib.Omega.{arith}
use borrow.Author.Tests.{eq-eqb, ne_eqb, eqb-true, eqb-false}
use lib.ListN.{length, get_or}
use Rattle.lists.proofs.Members.{map_at}
use Rattle.packed.specs.Order.{value_of}
use Rattle.store.specs.Literals.{variable_of, is_negative, opposite_of}
use Rattle.store.specs.Stores.{is_row}
use Rattle.store.proofs.Formed.{row_of, is-row}
use Rattle.symmetry.specs.Symmetry.{image_of}
use Rattle.symmetry.proofs.ImageLaws.{turned}
use Rattle.cycles.specs.Cycles.{left_out}
use Rattle.cycles.proofs.Largest.{turned-in}
use Rattle.lexleader.specs.Models.{literal_value}
use Rattle.lexleader.specs.Rows.{Pair, moved, pairs_but, pairs_of}
use Rattle.lexleader.specs.Made.{pair_clauses, row_clauses, auxiliaries}
use Rattle.lexleader.proofs.StoreBounds.{variables-sum, clauses-sum}
use Rattle.demands.specs.Signs.{image_at, size_at, turns_at, SignedRow, TurnsSigns}

signed-row : (n : ℕ) (row : List ℕ) → (is_row n row ≡ true) ↔ SignedRow n row
signed-row n row = (
  λ e. let r = row_of n row e in
      record {
        many = r.size;
        low = λ i l h. r.low (i - 1) (omega arith);
        high = λ i l h. r.high (i - 1) (omega arith);
        differ = λ i j l h m k q. omega (arith, r.one_place (i - 1) (j - 1) (omega arith) (omega arith) q);
      },
  λ s. is-row n row (record {
    size = s.many;
    low = λ i h. omega (arith, s.low (i + 1) (omega arith) (omega arith), at i);
    high = λ i h. omega (arith, s.high (i + 1) (omega arith) (omega arith), at i);
    one_place = λ i j h k q. omega (arith, s.differ (i + 1) (j + 1) (omega arith) (omega arith) (omega arith) (omega arith) (at i ∙ q ∙ sym (at j)));
  }),
)
  where
    at : (i : ℕ) → size_at row (i + 1) ≡ variable_of (get_or row i 0)
    at i = let index : i + 1 - 1 ≡ i = omega arith in ap (λ (k : ℕ). variable_of (get_or row k 0)) index

module _ (row : List ℕ) (code : ℕ) where
  image-size : variable_of (image_of row code) ≡ size_at row (variable_of code)
  unfolding image_of
  image-size = (turned code (image_at row (variable_of code))).0

  image-sign : is_negative (image_of row code) ≡ not (beq (is_negative code) (turns_at row (variable_of code)))
  unfolding image_of
  image-sign = by (image_of row code) (image_at row (variable_of code)) (turned code (image_at row (variable_of code))).1
    where
      by : (r a : ℕ) → (r + code + a) % 2 ≡ 0 → is_negative r ≡ not (beq (is_negative code) (is_negative a))
      by r a even = go (is_negative code) refl (is_negative a) refl
        where
          go : (b : Bool) → is_negative code ≡ b → (c : Bool) → is_negative a ≡ c → is_negative r ≡ not (beq b c)
          go true e true f = ne_eqb (r % 2) 1 (λ q. omega (arith, eqb-true (code % 2) 1 e, eqb-true (a % 2) 1 f))
          go true e false f = eq-eqb (r % 2) 1 (omega (arith, eqb-true (code % 2) 1 e, eqb-false (a % 2) 1 f))
          go false e true f = eq-eqb (r % 2) 1 (omega (arith, eqb-false (code % 2) 1 e, eqb-true (a % 2) 1 f))
          go false e false f = ne_eqb (r % 2) 1 (λ q. omega (arith, eqb-false (code % 2) 1 e, eqb-false (a % 2) 1 f))

module _ (row : List ℕ) (a : List Bool) (i : ℕ) (low : 1 ≤ i) (high : i ≤ length row) where
  moved_at : value_of (moved row a) i ≡ literal_value (value_of a) (image_at row i)
  unfolding moved
  moved_at = map_at (literal_value (value_of a)) row (i - 1) 0 false (omega arith)

  moved_plain : (j : ℕ) → image_at row i ≡ 2 * j → value_of (moved row a) i ≡ value_of a j
  unfolding literal_value
  moved_plain j e =
      let half : variable_of (2 * j) ≡ j = omega arith in
      moved_at ∙ rw (e, ne_eqb (2 * j % 2) 1 (λ q. omega arith), half)

  moved-negated : (j : ℕ) → image_at row i ≡ 2 * j + 1 → value_of (moved row a) i ≡ not (value_of a j)
  unfolding literal_value
  moved-negated j e =
      let half : variable_of (2 * j + 1) ≡ j = omega arith in
      moved_at ∙ rw (e, eq-eqb ((2 * j + 1) % 2) 1 (omega arith), half)

-- a variable that is not left out is one of the pairs, with its image
pair-in : (out : ℕ → Bool) (k : ℕ) (row : List ℕ) (i : ℕ) → i < length row → out (k + i) ≡ false → Memᴰ (record { x = 2 * (k + i); y = get_or row i 0 }) (pairs_but out k row)
unfolding pairs_but
pair-in out k [] i h e = absurd (omega arith)
pair-in out k (y ∷ row) zero h e =
    let here : k + 0 ≡ k = omega arith in
    let stays : out k ≡ false = rw here at e in
    rw (here, stays) (Memᴰ.head refl)
pair-in out k (y ∷ row) (suc i) h e =
    let next : k + suc i ≡ k + 1 + i = omega arith in
    by (out k) (rw next (pair-in out (k + 1) row i (omega arith) (rw next at e)))
  where
    by : (b : Bool) → Memᴰ (record { x = 2 * (k + suc i); y = get_or row i 0 }) (pairs_but out (k + 1) row)
        → Memᴰ (record { x = 2 * (k + suc i); y = get_or row i 0 }) (cond b (pairs_but out (k + 1) row) (record { x = 2 * k; y = y } ∷ pairs_but out (k + 1) row))
    by true m = m
    by false m = Memᴰ.tail m

own-negation : (row : List ℕ) (i : ℕ) → 1 ≤ i → i ≤ length row → image_at row i ≡ 2 * i + 1 → Memᴰ (record { x = 2 * i; y = 2 * i + 1 }) (pairs_of row)
unfolding pairs_of
own-negation row i low high e =
    let here : 1 + (i - 1) ≡ i = omega arith in
    rw (here, e) at (pair-in (left_out row) 1 row (i - 1) (omega arith) (rw here (turned-in row i e)))

single-clause : (e : ℕ) (row : List ℕ) (q : Pair) → pairs_of row ≡ q ∷ [] → (row_clauses e row ≡ (opposite_of q.x ∷ q.y ∷ []) ∷ []) × (auxiliaries row ≡ 0)
unfolding row_clauses pair_clauses auxiliaries
single-clause e row q one = (rw one, rw one)

pub turns-signs : TurnsSigns
turns-signs = record {
  rows = signed-row;
  size = image-size;
  sign = image-sign;
  plain = λ row a i j low high. moved_plain row a i low high j;
  negated = λ row a i j low high. moved-negated row a i low high j;
  own = own-negation;
  single = single-clause;
  variables = λ s formed. variables-sum s;
  clauses = clauses-sum;
}
