-- Where two words, and two lists of words, first differ, and which is the lesser. Assumes nothing.
use mathlib.Core.Path.{◌≡◌, sym, ap, ap₂, ◌∙◌}
use mathlib.Core.Bool.{Bool, true, false, not, ◌&&◌}
use mathlib.Core.List.{List}
use mathlib.Core.Logic.{⊎_elim}
use Prim.Native.Nat.{ℕ, suc, ◌+◌, ◌-◌, ◌*◌, ◌/◌, ◌%◌, ◌^◌, ◌≤◌, ◌<◌}
use native.Mathlib.Nat.{div-eq_of_lt, lt_of_lt_of_le, pos_of_ne-zero}
use native.Mathlib.Omega.{arith}
use borrow.Author.Tests.{eq-eqb, ne_eqb, lt-ltb, le-ltb}
use lib.ListN.{length, get_or}
use lib.Dec.{eqb, ltb}
use lib.Bits.{bit_xor, xor_shr, xor_lt, xor_add_and, and_le_l, and_le_r}
use lib.Pow.{pow_mono, shl-shr, shr_mono, shr_lt, shr-shr}
use lib.Count.{count_leading_zeros, leading_top}
use Rattle.lists.proofs.Cases.{lt-or-le}
use Rattle.packed.specs.Words.{bit_in}
use Rattle.packed.specs.Order.{all_bits, first_difference, less, FirstUnequal}
use Rattle.packed.proofs.Bits.{same-digit, length-bits, all_bits-in}
use Rattle.packed.proofs.OrderLaws.{Split, difference-at, less-at}

-- ---- two words

-- words whose exclusive or is 0 are the same
xor-zero : (x y : ℕ) → bit_xor x y ≡ 0 → x ≡ y
xor-zero x y h = omega (arith, xor_add_and x y, and_le_l x y, and_le_r x y)

-- words whose exclusive or is 1 differ in the lowest bit
xor-one : (x y : ℕ) → bit_xor x y ≡ 1 → x % 2 ≡ y % 2 → ⊥
xor-one x y h e = omega (arith, xor_add_and x y)

-- the highest bit of a number, moved to the lowest place
top_one : (v j : ℕ) → 2 ^ j ≤ v → v < 2 ^ suc j → v / 2 ^ j ≡ 1
top_one v j h k =
    let o : suc j ≡ 1 + j = omega arith in
    let a : v / 2 ^ j < 2 ^ 1 = shr_lt 1 j (rw o at k) in
    let b : 1 * 2 ^ j / 2 ^ j ≤ v / 2 ^ j = shr_mono j (omega arith) in
    omega (arith, shl-shr 1 j)

-- two words first differ at place z
record Apart (x y z : ℕ) : Type 0 where
  low : z < 64
  over : (k : ℕ) → 64 ≤ z + k → x / 2 ^ k ≡ y / 2 ^ k
  here : bit_in x z ≡ bit_in y z → ⊥

-- that is the highest bit of their exclusive or
apart : (x y : ℕ) → x < 2 ^ 64 → y < 2 ^ 64 → (bit_xor x y ≡ 0 → ⊥) → Apart x y (count_leading_zeros 64 (bit_xor x y))
apart x y hx hy ne =
    let v : ℕ = bit_xor x y in
    let t = leading_top 64 v (pos_of_ne-zero ne) (xor_lt 64 x y hx hy) in
    let j : ℕ = t.0 in
    let at : 63 - count_leading_zeros 64 v ≡ j = omega (arith, t.1) in
    record {
      low = omega (arith, t.1);
      over = λ k h.
          let s : 2 ^ suc j ≤ 2 ^ k = pow_mono (omega (arith, t.1)) in
          xor-zero (x / 2 ^ k) (y / 2 ^ k) (sym (xor_shr x y k) ∙ div-eq_of_lt (lt_of_lt_of_le t.3 s));
      here = λ e.
          let s : bit_xor (x / 2 ^ j) (y / 2 ^ j) ≡ 1 = sym (xor_shr x y j) ∙ top_one v j t.2 t.3 in
          xor-one (x / 2 ^ j) (y / 2 ^ j) s (rw at at (same-digit x y (count_leading_zeros 64 v) e));
    }

-- before it their bits are the same
apart-before : (x y z : ℕ) → Apart x y z → (p : ℕ) → p < z → bit_in x p ≡ bit_in y p
unfolding bit_in
apart-before x y z d p h = ap (λ (n : ℕ). eqb (n % 2) 1) (d.over (63 - p) (omega (arith, d.low)))

-- of two digits after the same ones, that of the lesser is 0
digits : (m n : ℕ) → m / 2 ≡ n / 2 → (eqb (m % 2) 1 ≡ eqb (n % 2) 1 → ⊥) → m ≤ n → (eqb (m % 2) 1 ≡ false) × (eqb (n % 2) 1 ≡ true)
digits m n e d l =
    let ne : m % 2 ≡ n % 2 → ⊥ = λ q. d (ap (λ (k : ℕ). eqb k 1) q) in
    (ne_eqb (m % 2) 1 (λ q. ne (omega arith)), eq-eqb (n % 2) 1 (omega arith))

-- the lesser word is that with 0 where they first differ
apart-less : (x y z : ℕ) → Apart x y z → (not (bit_in x z) && bit_in y z) ≡ ltb x y
unfolding bit_in
apart-less x y z d =
    ⊎_elim
    (λ (l : x < y). let t = digits _ _ same d.here (shr_mono (63 - z) (omega arith)) in rw (t.0, t.1, lt-ltb x y l))
    (λ (l : y ≤ x). let t = digits _ _ (sym same) (λ e. d.here (sym e)) (shr_mono (63 - z) l) in rw (t.1, le-ltb x y l))
    (lt-or-le x y)
  where
    half : (w : ℕ) → w / 2 ^ (63 - z) / 2 ≡ w / 2 ^ (64 - z)
    half w = let e : 63 - z + 1 ≡ 64 - z = omega (arith, d.low) in rw e at (shr-shr w (63 - z) 1)

    same : x / 2 ^ (63 - z) / 2 ≡ y / 2 ^ (63 - z) / 2
    same = half x ∙ d.over (64 - z) (omega arith) ∙ sym (half y)

-- ---- two lists of words of one length, which first differ at i

module _ (a b : List ℕ) (i : ℕ) (e : length a ≡ length b) (f : FirstUnequal a b i) (ha : get_or a i 0 < 2 ^ 64) (hb : get_or b i 0 < 2 ^ 64) where
  lengths : length (all_bits a) ≡ length (all_bits b)
  lengths = length-bits (64 * length a) a ∙ ap (λ (n : ℕ). 64 * n) e ∙ sym (length-bits (64 * length b) b)

  split : (z : ℕ) → Apart (get_or a i 0) (get_or b i 0) z → Split (all_bits a) (all_bits b) (i * 64 + z)
  split z d = record {
    within = omega (arith, f.within, length-bits (64 * length a) a, d.low);
    before = λ p h.
        let k : p / 64 * 64 + p % 64 ≡ p = omega arith in
        let g : p / 64 < length a = omega (arith, f.within, d.low) in
        rw k at (all_bits-in a (p / 64) (p % 64) g (omega arith) ∙ word p h ∙ sym (all_bits-in b (p / 64) (p % 64) (omega arith) (omega arith)));
    here = λ q. d.here (sym (all_bits-in a i z f.within d.low) ∙ q ∙ all_bits-in b i z (omega arith) d.low);
  }
    where
      word : (p : ℕ) → p < i * 64 + z → bit_in (get_or a (p / 64) 0) (p % 64) ≡ bit_in (get_or b (p / 64) 0) (p % 64)
      word p h =
          ⊎_elim (λ (g : p / 64 < i). ap (λ (w : ℕ). bit_in w (p % 64)) (f.before (p / 64) g))
          (λ (g : i ≤ p / 64).
          let k : p / 64 ≡ i = omega (arith, d.low) in
          rw k (apart-before (get_or a i 0) (get_or b i 0) z d (p % 64) (omega arith)))
          (lt-or-le (p / 64) i)

  unequal : bit_xor (get_or a i 0) (get_or b i 0) ≡ 0 → ⊥
  unequal q = f.here (xor-zero _ _ q)

  pub words-difference : first_difference (all_bits a) (all_bits b)
      ≡ i * 64 + count_leading_zeros 64 (bit_xor (get_or a i 0) (get_or b i 0)) + 1
  words-difference = difference-at (all_bits a) (all_bits b) _ lengths (split _ (apart _ _ ha hb unequal))

  words-less : less (all_bits a) (all_bits b) ≡ ltb (get_or a i 0) (get_or b i 0)
  words-less =
      let z : ℕ = count_leading_zeros 64 (bit_xor (get_or a i 0) (get_or b i 0)) in
      let d = apart (get_or a i 0) (get_or b i 0) ha hb unequal in
      less-at (all_bits a) (all_bits b) _ lengths (split z d)
      ∙ ap₂ (λ (x y : Bool). not x && y) (all_bits-in a i z f.within d.low) (all_bits-in b i z (omega arith) d.low)
      ∙ apart-less (get_or a i 0) (get_or b i 0) z d

-- the same the other way round
pub lesser-word : (a b : List ℕ) (i : ℕ) → length a ≡ length b → FirstUnequal a b i → get_or a i 0 < 2 ^ 64 → get_or b i 0 < 2 ^ 64
    → less (all_bits b) (all_bits a) ≡ ltb (get_or b i 0) (get_or a i 0)
lesser-word a b i e f ha hb =
    words-less b a i (sym e)
    (record { within = omega (arith, f.within); before = λ k h. sym (f.before k h); here = λ q. f.here (sym q) })
    hb ha
