-- The numbers that words are, and the digits at the front of a word. Assumes nothing.
use mathlib.Core.Path.{◌≡◌, refl, sym}
use mathlib.Core.Bool.{Bool, true, false, cond, not, ◌&&◌, and-false}
use mathlib.Core.List.{List, [], ◌∷◌}
use mathlib.Core.Logic.{◌⊎◌, inl, inr, ⊎_elim}
use Prim.Native.Nat.{ℕ, zero, suc, min, ◌+◌, ◌-◌, ◌*◌, ◌^◌, ◌≤◌, ◌<◌}
use native.Mathlib.Nat.{pow-suc, pow-le-pow_right}
use native.Mathlib.Numerals.{add-one}
use native.Mathlib.Omega.{arith}
use borrow.Author.Tests.{eqb-true, leb-true, le-leb, lt-leb, eq-eqb, ne_eqb}
use lib.Dec.{leb, eqb, lit<}
use lib.ListN.{length, get_or, take, drop, drop_of_length-le}
use lib.Seq.{drop-cons, take-nil}
use Rattle.std.specs.Char.{is_ascii_digit}
use Rattle.lists.specs.Tests.{all_of}
use Rattle.lists.proofs.Cases.{never, and_l, and_r}
use Rattle.dimacs.specs.Words.{is_blank, is_word_byte, run}
use Rattle.dimacs.specs.Numbers.{Size, is_digit, decimal_from, digits_of, padded, size_of, positive, negated, numeral_of}
use Rattle.dimacs.proofs.Runs.{run_length}

-- ---- digits

-- the library's test is the paper's
pub ascii-digit : (b : ℕ) → is_ascii_digit b ≡ is_digit b
unfolding is_digit
ascii-digit b = refl

pub record Digit (b : ℕ) : Type 0 where
  pub low : 48 ≤ b
  pub high : b ≤ 57

pub digit-range : (b : ℕ) → is_digit b ≡ true → Digit b
unfolding is_digit
digit-range b e =
    record { low = leb-true 48 b (and_l (leb 48 b) (leb b 57) e); high = leb-true b 57 (and_r (leb 48 b) (leb b 57) e) }

-- i digits are below 10 ^ i
pub grow : (v d i : ℕ) → v < 10 ^ i → d ≤ 9 → v * 10 + d < 10 ^ (i + 1)
grow v d i h k = rw (add-one i, pow-suc 10 i) (omega arith)

pub up-to-six : (v i : ℕ) → v < 10 ^ i → i ≤ 6 → v < 1000000
up-to-six v i h k =
    let p : 10 ^ i ≤ 10 ^ 6 = pow-le-pow_right (lit< tt) k in
    omega arith

-- the value of a run of digits, from its place i on
module _ (v : ℕ) (s : List ℕ) (i : ℕ) where
  pub decimal-end : length s ≤ i → decimal_from v (run is_digit (drop i s)) ≡ v
  unfolding run decimal_from
  decimal-end h = rw (drop_of_length-le s h)

  pub decimal-stop : i < length s → is_digit (get_or s i 0) ≡ false → decimal_from v (run is_digit (drop i s)) ≡ v
  unfolding run decimal_from
  decimal-stop h e = rw (drop-cons s i 0 h, e)

  pub decimal_step : i < length s → is_digit (get_or s i 0) ≡ true
      → decimal_from v (run is_digit (drop i s)) ≡ decimal_from (v * 10 + (get_or s i 0 - 48)) (run is_digit (drop (i + 1) s))
  unfolding run decimal_from
  decimal_step h e = rw (add-one i, drop-cons s i 0 h, e)

-- digits that do not start with a zero have a value
decimal-least : (v : ℕ) (ds : List ℕ) → v ≤ decimal_from v ds
unfolding decimal_from
decimal-least v [] = omega arith
decimal-least v (b ∷ ds) = omega (arith, decimal-least (v * 10 + (b - 48)) ds)

pub decimal-some : (ds : List ℕ) → 48 < get_or ds 0 0 → 0 < decimal_from 0 ds
unfolding decimal_from
decimal-some [] h = absurd (omega arith)
decimal-some (b ∷ ds) h = omega (arith, decimal-least (0 * 10 + (b - 48)) ds)

-- a zero alone has none
pub decimal-zero : (ds : List ℕ) → length ds ≡ 1 → get_or ds 0 0 ≡ 48 → decimal_from 0 ds ≡ 0
unfolding decimal_from
decimal-zero [] l e = absurd (omega arith)
decimal-zero (b ∷ []) l e = rw e
decimal-zero (b ∷ c ∷ ds) l e = absurd (omega arith)

pub digits_are : (ds : List ℕ) (v : ℕ) → all_of is_digit ds ≡ true → v ≡ decimal_from 0 ds → digits_of ds ≡ Size.Is v
unfolding digits_of
digits_are ds v e d = rw (e, d)

-- ---- the size that digits are

module _ (ds : List ℕ) where
  pub size-empty : length ds ≡ 0 → size_of ds ≡ Size.Not
  unfolding size_of
  size-empty h = rw (lt-leb 1 (length ds) (omega arith))

  size-long : 6 < length ds → size_of ds ≡ Size.Not
  unfolding size_of
  size-long h = rw (le-leb 1 (length ds) (omega arith), lt-leb (length ds) 6 h)

  pub size-padded : get_or ds 0 0 ≡ 48 → 1 < length ds → length ds ≤ 6 → size_of ds ≡ Size.Not
  unfolding size_of
  size-padded e h k = rw (le-leb 1 (length ds) (omega arith), le-leb (length ds) 6 k, eq-eqb (get_or ds 0 0) 48 e, le-leb 2 (length ds) (omega arith))

  size-other : all_of is_digit ds ≡ false → size_of ds ≡ Size.Not
  unfolding size_of digits_of
  size-other e = by (leb 1 (length ds) && leb (length ds) 6 && not (padded ds))
    where
      by : (shape : Bool) → cond shape (cond (all_of is_digit ds) (Size.Is (decimal_from 0 ds)) Size.Not) Size.Not ≡ Size.Not
      by true = rw e
      by false = refl

  pub size-zero : 0 < length ds → length ds ≤ 1 → size_of ds ≡ digits_of ds
  unfolding size_of
  size-zero h k =
      rw (le-leb 1 (length ds) h, le-leb (length ds) 6 (omega arith), lt-leb 2 (length ds) (omega arith), and-false (eqb (get_or ds 0 0) 48))

  pub size-digits : 0 < length ds → length ds ≤ 6 → (get_or ds 0 0 ≡ 48 → ⊥) → size_of ds ≡ digits_of ds
  unfolding size_of
  size-digits h k n = rw (le-leb 1 (length ds) h, le-leb (length ds) 6 k, ne_eqb (get_or ds 0 0) 48 n)

-- ---- the number that a word is

-- a minus is a word byte
pub minus-ink : (b : ℕ) → eqb b 45 ≡ true → is_word_byte b ≡ true
unfolding is_blank
minus-ink b e = rw (eqb-true b 45 e)

pub number-minus : (s : List ℕ) → eqb (get_or s 0 0) 45 ≡ true → numeral_of (run is_word_byte s) ≡ negated (size_of (run is_word_byte (drop 1 s)))
unfolding run is_blank numeral_of
number-minus [] e = never e
number-minus (b ∷ r) e = rw (eqb-true b 45 e)

pub number-plain : (s : List ℕ) → eqb (get_or s 0 0) 45 ≡ false → numeral_of (run is_word_byte s) ≡ positive (size_of (run is_word_byte s))
unfolding run numeral_of size_of
number-plain [] e = refl
number-plain (b ∷ r) e = by (is_blank b)
  where
    by : (t : Bool) → numeral_of (cond (not t) (b ∷ run is_word_byte r) []) ≡ positive (size_of (cond (not t) (b ∷ run is_word_byte r) []))
    by true = refl
    by false = rw e

-- ---- the digits at the front of a word

digit-ink : (b : ℕ) → is_digit b ≡ true → is_blank b ≡ false
unfolding is_blank
digit-ink b e = let d = digit-range b e in rw (ne_eqb b 32 (omega (arith, d)), ne_eqb b 9 (omega (arith, d)), ne_eqb b 10 (omega (arith, d)))

-- where no word byte follows the digits, they are the word
pub word-is-digits : (k : ℕ) (s : List ℕ) → is_blank (get_or s (length (run is_digit (take k s))) 32) ≡ true → run is_word_byte s ≡ run is_digit (take k s)
unfolding run
word-is-digits k [] e = rw (take-nil {A = ℕ} k)
word-is-digits zero (b ∷ r) e = rw e
word-is-digits (suc k) (b ∷ r) e = by (is_digit b) refl e (word-is-digits k r)
  where
    by : (d : Bool) → is_digit b ≡ d → is_blank (get_or (b ∷ r) (length (cond d (b ∷ run is_digit (take k r)) [])) 32) ≡ true
        → (is_blank (get_or r (length (run is_digit (take k r))) 32) ≡ true → run is_word_byte r ≡ run is_digit (take k r))
        → cond (not (is_blank b)) (b ∷ run is_word_byte r) [] ≡ cond d (b ∷ run is_digit (take k r)) []
    by true q e ih = rw (digit-ink b q, ih e)
    by false q e ih = rw e

-- where one follows, the word is longer than what was looked at, or has a byte that is no digit
word-goes-on : (k : ℕ) (s : List ℕ) → is_blank (get_or s (length (run is_digit (take k s))) 32) ≡ false
    → (k < length (run is_word_byte s)) ⊎ (all_of is_digit (run is_word_byte s) ≡ false)
unfolding run is_blank all_of
word-goes-on k [] e = never (sym e)
word-goes-on zero (b ∷ r) e = inl (rw e (omega arith))
word-goes-on (suc k) (b ∷ r) e = by (is_digit b) refl e (word-goes-on k r)
  where
    by : (d : Bool) → is_digit b ≡ d → is_blank (get_or (b ∷ r) (length (cond d (b ∷ run is_digit (take k r)) [])) 32) ≡ false
        → (is_blank (get_or r (length (run is_digit (take k r))) 32) ≡ false → (k < length (run is_word_byte r)) ⊎ (all_of is_digit (run is_word_byte r) ≡ false))
        → (suc k < length (run is_word_byte (b ∷ r))) ⊎ (all_of is_digit (run is_word_byte (b ∷ r)) ≡ false)
    by true q e ih =
        ⊎_elim
        (λ (h : k < length (run is_word_byte r)). inl (rw (digit-ink b q) (omega arith)))
        (λ (a : all_of is_digit (run is_word_byte r) ≡ false). inr (rw (digit-ink b q, q, a)))
        (ih e)
    by false q e ih = inr (rw (e, q))

-- so it is no size
pub size-goes-on : (k : ℕ) (s : List ℕ) → k ≡ min (length s) 6 → is_blank (get_or s (length (run is_digit (take k s))) 32) ≡ false → size_of (run is_word_byte s) ≡ Size.Not
size-goes-on k s most e =
    ⊎_elim (λ h. size-long (run is_word_byte s) (omega (arith, run_length is_word_byte s))) (size-other (run is_word_byte s)) (word-goes-on k s e)
