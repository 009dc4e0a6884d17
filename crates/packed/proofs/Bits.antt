-- One bit of a word, of a list of words and of the bits of such a list. Assumes nothing.
use mathlib.Core.Path.{◌≡◌, refl, sym, ap, ap₂, ◌∙◌}
use mathlib.Core.Bool.{Bool, false, cond}
use mathlib.Core.List.{List}
use Prim.Native.Nat.{ℕ, zero, suc, ◌+◌, ◌-◌, ◌*◌, ◌/◌, ◌%◌, ◌^◌, ◌≤◌, ◌<◌}
use native.Mathlib.Omega.{arith}
use native.Mathlib.Nat.{zero-mod, zero-div}
use lib.ListN.{length, get_or}
use lib.Dec.{eqb}
use lib.Bits.{bit_and, and_mask}
use lib.Pow.{field, mod-mod-pow, mod-pow-add}
use Rattle.lists.proofs.TableLaws.{length-table, get_or-table}
use Rattle.packed.specs.Words.{bit_in, bit_at, bits_of}
use Rattle.packed.specs.Order.{all_bits, value_of}

-- ---- a digit and the bit that it is

digit : (m : ℕ) → m < 2 → cond (eqb m 1) 1 0 ≡ m
digit zero h = refl
digit (suc zero) h = refl
digit (suc (suc m)) h = omega arith

bit-digit : (w p : ℕ) → cond (bit_in w p) 1 0 ≡ w / 2 ^ (63 - p) % 2
unfolding bit_in
bit-digit w p = digit (w / 2 ^ (63 - p) % 2) (omega arith)

-- bits that are the same are so as digits
pub same-digit : (x y p : ℕ) → bit_in x p ≡ bit_in y p → x / 2 ^ (63 - p) % 2 ≡ y / 2 ^ (63 - p) % 2
same-digit x y p e = sym (bit-digit x p) ∙ ap (λ (b : Bool). cond b 1 0) e ∙ bit-digit y p

-- ---- the low bits of a word

-- words with the same m low bits have the same remainder
pub low_same : (x y m : ℕ) → m ≤ 64 → ((p : ℕ) → p < 64 → 64 ≤ p + m → bit_in x p ≡ bit_in y p) → x % 2 ^ m ≡ y % 2 ^ m
low_same x y zero h s = omega arith
low_same x y (suc m) h s =
    let o : suc m ≡ 1 + m = omega arith in
    let k : 63 - (63 - m) ≡ m = omega arith in
    let top : x / 2 ^ m % 2 ≡ y / 2 ^ m % 2 = rw k at (same-digit x y (63 - m) (s (63 - m) (omega arith) (omega arith))) in
    let rest : x % 2 ^ m ≡ y % 2 ^ m = low_same x y m (omega arith) (λ p l g. s p l (omega arith)) in
    rw o (mod-pow-add x 1 m ∙ ap₂ (λ (u v : ℕ). u * 2 ^ m + v) top rest ∙ sym (mod-pow-add y 1 m))

-- and back, for a word whose low bits are 0
pub low-zero : (w m p : ℕ) → p < 64 → 64 ≤ p + m → w % 2 ^ m ≡ 0 → bit_in w p ≡ false
unfolding bit_in
low-zero w m p h l e =
    let t : ℕ = 63 - p in
    let s : m - (1 + t) + (1 + t) ≡ m = omega arith in
    let r : w % 2 ^ (1 + t) ≡ 0 =
    sym (mod-mod-pow w (m - (1 + t)) (1 + t)) ∙ ap (λ (k : ℕ). k % 2 ^ (1 + t)) (ap (λ (k : ℕ). w % 2 ^ k) s ∙ e) ∙ zero-mod (2 ^ (1 + t)) in
    ap (λ (k : ℕ). eqb k 1) (sym (field w 1 t) ∙ ap (λ (k : ℕ). k / 2 ^ t) r ∙ zero-div (2 ^ t))

-- ---- a list of words

pub bit_at-in : (ws : List ℕ) (i p : ℕ) → p < 64 → bit_at ws (i * 64 + p) ≡ bit_in (get_or ws i 0) p
unfolding bit_at
bit_at-in ws i p h =
    let d : (i * 64 + p) / 64 ≡ i = omega arith in
    let m : (i * 64 + p) % 64 ≡ p = omega arith in
    cc

-- what the code of `value` tests
pub value-law : (ws : List ℕ) (j : ℕ) → eqb (bit_and (get_or ws (j / 64) 0 / 2 ^ (63 - j % 64)) 1) 1 ≡ bit_at ws j
unfolding bit_at bit_in
value-law ws j = ap (λ (n : ℕ). eqb n 1) (and_mask (get_or ws (j / 64) 0 / 2 ^ (63 - j % 64)) 1)

pub length-bits : (n : ℕ) (ws : List ℕ) → length (bits_of n ws) ≡ n
unfolding bits_of
length-bits n ws = length-table n (bit_at ws)

pub get_or-bits : (n : ℕ) (ws : List ℕ) (j : ℕ) → j < n → get_or (bits_of n ws) j false ≡ bit_at ws j
unfolding bits_of
get_or-bits n ws j h = get_or-table n (bit_at ws) j false h

-- the value of variable i
pub value-is : (n : ℕ) (ws : List ℕ) (i : ℕ) → 1 ≤ i → i ≤ n → bit_at ws (i - 1) ≡ value_of (bits_of n ws) i
value-is n ws i low high = sym (get_or-bits n ws (i - 1) (omega arith))

-- the bit of a word in all the bits of a list
pub all_bits-in : (ws : List ℕ) (i p : ℕ) → i < length ws → p < 64 → get_or (all_bits ws) (i * 64 + p) false ≡ bit_in (get_or ws i 0) p
all_bits-in ws i p l h = get_or-bits (64 * length ws) ws (i * 64 + p) (omega arith) ∙ bit_at-in ws i p h
