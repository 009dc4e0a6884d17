-- From bits to words and back. Assumes nothing.
use mathlib.Core.Path.{◌≡◌, refl, sym, ap, ◌∙◌}
use mathlib.Core.Bool.{Bool, true, false, cond}
use mathlib.Core.List.{List}
use Prim.Native.Nat.{ℕ, zero, suc, ◌+◌, ◌-◌, ◌*◌, ◌/◌, ◌%◌, ◌^◌, ◌≤◌, ◌<◌}
use native.Mathlib.Omega.{arith}
use native.Mathlib.Nat.{pow-suc}
use lib.ListN.{length, get_or, get_or-eq_default}
use lib.Dec.{eqb}
use lib.Pow.{shr-shr}
use lib.Seq.{ext_get_or}
use Rattle.lists.proofs.TableLaws.{length-table, get_or-table}
use Rattle.packed.specs.Words.{bit_in, bit_at, bits_of, binary, word_count, words_of, is_assignment}
use Rattle.packed.proofs.Bits.{bit_at-in, length-bits, get_or-bits}
use Rattle.packed.proofs.Form.{of-form}

-- ---- a number and its digits

digit_lt : (b : Bool) → cond b 1 0 < 2
digit_lt true = omega arith
digit_lt false = omega arith

digit-eqb : (b : Bool) → eqb (cond b 1 0) 1 ≡ b
digit-eqb true = refl
digit-eqb false = refl

pub binary-lt : (k : ℕ) (f : ℕ → Bool) → binary k f < 2 ^ k
unfolding binary
binary-lt zero f = omega arith
binary-lt (suc k) f = omega (arith, binary-lt k f, digit_lt (f k), pow-suc 2 k)

half-shift : (a t : ℕ) → a / 2 ^ suc t ≡ a / 2 / 2 ^ t
half-shift a t = let o : suc t ≡ 1 + t = omega arith in rw o (sym (shr-shr a 1 t))

-- the digit before the last t
binary-digit : (k : ℕ) (f : ℕ → Bool) (q t : ℕ) → q + suc t ≡ k → binary k f / 2 ^ t % 2 ≡ cond (f q) 1 0
unfolding binary
binary-digit zero f q t e = absurd (omega arith)
binary-digit (suc k) f q zero e = let s : q ≡ k = omega arith in rw s (omega (arith, digit_lt (f k)))
binary-digit (suc k) f q (suc t) e =
    let half : (binary k f * 2 + cond (f k) 1 0) / 2 ≡ binary k f = omega (arith, digit_lt (f k)) in
    rw (half-shift, half) (binary-digit k f q t (omega arith))

-- the bits of a word that is made of bits
bit-binary : (f : ℕ → Bool) (p : ℕ) → p < 64 → bit_in (binary 64 f) p ≡ f p
unfolding bit_in
bit-binary f p h = ap (λ (n : ℕ). eqb n 1) (binary-digit 64 f p (63 - p) (omega arith)) ∙ digit-eqb (f p)

-- ---- the words of a list of values

pub length-words : (bs : List Bool) → length (words_of bs) ≡ word_count (length bs)
unfolding words_of
length-words bs = length-table (word_count (length bs)) (λ j. binary 64 (λ p. get_or bs (j * 64 + p) false))

pub get_or-words : (bs : List Bool) (j : ℕ) → j < word_count (length bs) → get_or (words_of bs) j 0 ≡ binary 64 (λ p. get_or bs (j * 64 + p) false)
unfolding words_of
get_or-words bs j h = get_or-table (word_count (length bs)) (λ j. binary 64 (λ p. get_or bs (j * 64 + p) false)) j 0 h

word-bit : (bs : List Bool) (j p : ℕ) → j < word_count (length bs) → p < 64 → bit_in (get_or (words_of bs) j 0) p ≡ get_or bs (j * 64 + p) false
word-bit bs j p h l = rw (get_or-words bs j h) (bit-binary (λ p. get_or bs (j * 64 + p) false) p l)

bit-words : (bs : List Bool) (j : ℕ) → j < 64 * word_count (length bs) → bit_at (words_of bs) j ≡ get_or bs j false
bit-words bs j h =
    let e : j / 64 * 64 + j % 64 ≡ j = omega arith in
    rw e at (bit_at-in (words_of bs) (j / 64) (j % 64) (omega arith) ∙ word-bit bs (j / 64) (j % 64) (omega arith) (omega arith))

count-holds : (n : ℕ) → n ≤ 64 * word_count n
unfolding word_count
count-holds n = omega arith

-- ---- the round trip

pub bits-words : (n : ℕ) (bs : List Bool) → length bs ≡ n → bits_of n (words_of bs) ≡ bs
bits-words n bs e =
    ext_get_or false (bits_of n (words_of bs)) bs (length-bits n (words_of bs) ∙ sym e)
    (λ j h. get_or-bits n (words_of bs) j (omega (arith, length-bits n (words_of bs)))
    ∙ bit-words bs j (omega (arith, length-bits n (words_of bs), count-holds (length bs))))

pub words-form : (bs : List Bool) → is_assignment (length bs) (words_of bs) ≡ true
words-form bs = of-form (length bs) (words_of bs) (record {
  count = length-words bs;
  spare = λ j h l. bit-words bs j (omega (arith, length-words bs)) ∙ get_or-eq_default bs false h;
})
