-- The right form of words: just enough words and the spare bits 0, index by index, and the tests that decide it. Assumes nothing.
use mathlib.Core.Path.{◌≡◌, refl, sym, ap, ◌∙◌}
use mathlib.Core.Bool.{true, false, not}
use mathlib.Core.List.{List}
use Prim.Native.Nat.{ℕ, ◌+◌, ◌-◌, ◌*◌, ◌/◌, ◌%◌, ◌^◌, ◌≤◌, ◌<◌}
use native.Mathlib.Omega.{arith}
use native.Mathlib.Nat.{one-mul, zero-mod}
use borrow.Author.Tests.{eqb-true, eq-eqb, ne_eqb, not-true}
use lib.ListN.{length, get_or, length-drop}
use lib.Dec.{eqb}
use lib.Bits.{bit_and, and_mask}
use lib.Pow.{shl_exact}
use lib.Seq.{get_or-drop}
use Rattle.lists.specs.Tests.{all_of}
use Rattle.lists.proofs.Cases.{and_l, and_r, and_both, bool-ext}
use Rattle.lists.proofs.Members.{all-at, all_in}
use Rattle.packed.specs.Words.{bit_in, bit_at, bits_of, word_count, spare_bits, is_assignment}
use Rattle.packed.proofs.Bits.{length-bits, get_or-bits, bit_at-in, low_same, low-zero}

-- what `is_assignment` says, index by index
pub record Form (n : ℕ) (ws : List ℕ) : Type 0 where
  pub count : length ws ≡ word_count n
  pub spare : (j : ℕ) → n ≤ j → j < 64 * length ws → bit_at ws j ≡ false

-- ---- the form is the definition

length-spare : (n : ℕ) (ws : List ℕ) → length (spare_bits n ws) ≡ 64 * length ws - n
unfolding spare_bits
length-spare n ws = length-drop n (bits_of (64 * length ws) ws) ∙ ap (λ (m : ℕ). m - n) (length-bits (64 * length ws) ws)

spare-at : (n : ℕ) (ws : List ℕ) (i : ℕ) → n + i < 64 * length ws → get_or (spare_bits n ws) i false ≡ bit_at ws (n + i)
unfolding spare_bits
spare-at n ws i h = get_or-drop n (bits_of (64 * length ws) ws) i false ∙ get_or-bits (64 * length ws) ws (n + i) h

pub form-count : (n : ℕ) (ws : List ℕ) → is_assignment n ws ≡ true → length ws ≡ word_count n
unfolding is_assignment
form-count n ws t = eqb-true _ _ (and_l (eqb (length ws) (word_count n)) (all_of not (spare_bits n ws)) t)

-- the words have room for the variables
pub form-room : (n : ℕ) (ws : List ℕ) → is_assignment n ws ≡ true → n ≤ 64 * length ws
unfolding word_count
form-room n ws t = omega (arith, form-count n ws t)

pub form_of : (n : ℕ) (ws : List ℕ) → is_assignment n ws ≡ true → Form n ws
unfolding is_assignment
form_of n ws t = record {
  count = form-count n ws t;
  spare = λ j h l.
      let k : n + (j - n) ≡ j = omega arith in
      let e = and_r (eqb (length ws) (word_count n)) (all_of not (spare_bits n ws)) t in
      let s = all-at not (spare_bits n ws) false e (j - n) (omega (arith, length-spare n ws)) in
      rw k at (sym (spare-at n ws (j - n) (omega arith)) ∙ not-true _ s);
}

pub of-form : (n : ℕ) (ws : List ℕ) → Form n ws → is_assignment n ws ≡ true
unfolding is_assignment
of-form n ws f =
    and_both (eq-eqb _ _ f.count)
    (all_in not (spare_bits n ws) false (λ i h.
    let l : n + i < 64 * length ws = omega (arith, length-spare n ws) in
    ap not (spare-at n ws i l ∙ f.spare (n + i) (omega arith) l)))

-- ---- the tests of the code

one_shl : (s : ℕ) → s < 64 → (1 * 2 ^ s) % 2 ^ 64 ≡ 2 ^ s
one_shl s h = shl_exact {a = 1} 1 s 64 (omega arith) (omega arith) ∙ one-mul (2 ^ s)

-- no word is begun
pub form-whole : (n : ℕ) (ws : List ℕ) → n % 64 ≡ 0 → eqb (length ws) (n / 64) ≡ is_assignment n ws
unfolding word_count
form-whole n ws z =
    bool-ext (eqb (length ws) (n / 64)) (is_assignment n ws)
    (λ q.
    let e : length ws ≡ n / 64 = eqb-true _ _ q in
    of-form n ws (record { count = omega arith; spare = λ j h l. absurd (omega arith) }))
    (λ t. eq-eqb (length ws) (n / 64) (omega (arith, form-count n ws t)))

-- the count is another
pub form-ill : (n : ℕ) (ws : List ℕ) → (n % 64 ≡ 0 → ⊥) → (length ws ≡ n / 64 + 1 → ⊥) → is_assignment n ws ≡ false
unfolding is_assignment word_count
form-ill n ws z e = rw (ne_eqb (length ws) ((n + 63) / 64) (λ q. e (omega arith)))

-- the low bits of the last word
pub form-last : (n : ℕ) (ws : List ℕ) → (n % 64 ≡ 0 → ⊥) → length ws ≡ n / 64 + 1
    → eqb (bit_and (get_or ws (n / 64) 0) ((1 * 2 ^ (64 - n % 64)) % 2 ^ 64 - 1)) 0 ≡ is_assignment n ws
unfolding word_count
form-last n ws z e =
    let w : ℕ = get_or ws (n / 64) 0 in
    let m : ℕ = 64 - n % 64 in
    ap (λ (k : ℕ). eqb (bit_and w (k - 1)) 0) (one_shl m (omega arith)) ∙ ap (λ (k : ℕ). eqb k 0) (and_mask w m)
    ∙ bool-ext (eqb (w % 2 ^ m) 0) (is_assignment n ws)
    (λ q. of-form n ws (record {
      count = omega arith;
      spare = λ j h l.
          let k : n / 64 * 64 + j % 64 ≡ j = omega arith in
          rw k at (bit_at-in ws (n / 64) (j % 64) (omega arith) ∙ low-zero w m (j % 64) (omega arith) (omega arith) (eqb-true _ _ q));
    }))
    (λ t.
    let none : (p : ℕ) → p < 64 → 64 ≤ p + m → bit_in w p ≡ bit_in 0 p = λ p l g.
    sym (bit_at-in ws (n / 64) p l) ∙ (form_of n ws t).spare (n / 64 * 64 + p) (omega arith) (omega arith)
    ∙ sym (low-zero 0 64 p l (omega arith) refl) in
    eq-eqb _ _ (low_same w 0 m (omega arith) none ∙ zero-mod (2 ^ m)))
