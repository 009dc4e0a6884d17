-- One walk through a word: what `read` may answer when it knows the sign, the digits after it and whether the word ends there. Assumes nothing.
use mathlib.Core.Path.{◌≡◌, refl, sym, ap, ◌∙◌}
use mathlib.Core.Bool.{Bool, true, false}
use mathlib.Core.List.{List}
use mathlib.Core.Logic.{⊎_elim}
use mir.Val.{bool_byte}
use Prim.Native.Nat.{ℕ, min, ◌+◌, ◌-◌, ◌≤◌, ◌<◌}
use native.Mathlib.Nat.{add-zero, add-sub_cancel_left}
use native.Mathlib.Omega.{arith}
use borrow.Author.Tests.{ne_eqb}
use lib.Dec.{eqb}
use lib.ListN.{length, get_or, take, drop, length-take, length-drop}
use lib.Seq.{drop-drop, get_or-drop}
use Rattle.lists.proofs.Cases.{lt-or-le}
use Rattle.lists.proofs.Members.{all-at}
use Rattle.dimacs.specs.Words.{is_blank, is_word_byte, run, run_end}
use Rattle.dimacs.specs.Numbers.{Size, Numeral, is_digit, decimal_from, digits_of, size_of, positive, negated, numeral_of, word_at, reading_if, reading_at}
use Rattle.std.proofs.Common.{Ok, Err}
use Rattle.dimacs.proofs.Runs.{run_length, run-all, run-first, run_step}
use Rattle.dimacs.proofs.NumberLaws.{digit-range, decimal-some, decimal-zero, digits_are, minus-ink, size-empty, size-padded, size-zero, size-digits, size-goes-on, number-minus, number-plain, word-is-digits}

abbrev signed : Bool → Size → Numeral
signed true = negated
signed false = positive

sign-length : (negative : Bool) → bool_byte negative ≤ 1
sign-length true = omega arith
sign-length false = omega arith

-- the bytes after the sign that are looked at
abbrev window : List ℕ → ℕ → List ℕ
window text start = take (min (length text - start) 6) (drop start text)

pub window-part : (text : List ℕ) (start most : ℕ) → most ≡ min (length text - start) 6 → take (start + most - start) (drop start text) ≡ window text start
window-part text start most e = rw (add-sub_cancel_left start most, e)

pub record Walked (text : List ℕ) (at start end value : ℕ) (negative : Bool) : Type 0 where
  pub inside : at < length text
  pub sign : negative ≡ eqb (get_or text at 0) 45
  pub from : start ≡ at + bool_byte negative
  pub digits : end ≡ start + length (run is_digit (window text start))
  pub decimal : value ≡ decimal_from 0 (run is_digit (window text start))

module _ {text : List ℕ} {at start end value : ℕ} {negative : Bool} (w : Walked text at start end value negative) where
  pub walked-within : end ≤ length text
  walked-within =
      omega (arith, w.inside, w.from, sign-length negative, w.digits, run_length is_digit (window text start), length-take (min (length text - start) 6) (drop start text))

  -- a word is its sign and the word after it
  after-sign : reading_at text at ≡ reading_if (signed negative (size_of (word_at text start))) at (run_end is_word_byte text start)
  unfolding reading_at
  after-sign = by negative (sym here ∙ sym w.sign) w.from
    where
      here : eqb (get_or text at 0) 45 ≡ eqb (get_or (drop at text) 0 0) 45
      here = ap (λ (b : ℕ). eqb b 45) (sym (get_or-drop at text 0 0 ∙ ap (λ (n : ℕ). get_or text n 0) (add-zero at)))

      by : (n : Bool) → eqb (get_or (drop at text) 0 0) 45 ≡ n → start ≡ at + bool_byte n
          → reading_if (numeral_of (word_at text at)) at (run_end is_word_byte text at) ≡ reading_if (signed n (size_of (word_at text start))) at (run_end is_word_byte text start)
      by true s f =
          rw (f, number-minus (drop at text) s, drop-drop 1 at text, run_step is_word_byte text at w.inside (minus-ink (get_or text at 0) (here ∙ s)))
      by false s f = rw (f, add-zero at, number-plain (drop at text) s)

  refused-by : size_of (word_at text start) ≡ Size.Not → reading_at text at ≡ Err (record { at = at })
  refused-by e = after-sign ∙ rw e (by negative)
    where
      by : (n : Bool) → reading_if (signed n Size.Not) at (run_end is_word_byte text start) ≡ Err (record { at = at })
      by true = refl
      by false = refl

  after-digits : is_blank (get_or text end 32) ≡ is_blank (get_or (drop start text) (length (run is_digit (window text start))) 32)
  after-digits = rw (w.digits, get_or-drop start text (length (run is_digit (window text start))) 32)

  -- a word byte follows the digits
  pub walked_on : is_blank (get_or text end 32) ≡ false → reading_at text at ≡ Err (record { at = at })
  walked_on e =
      refused-by (size-goes-on (min (length text - start) 6) (drop start text) (rw (length-drop start text)) (sym after-digits ∙ e))

  -- none follows: the digits are the word
  module _ (e : is_blank (get_or text end 32) ≡ true) where
    whole : word_at text start ≡ run is_digit (window text start)
    whole = word-is-digits (min (length text - start) 6) (drop start text) (sym after-digits ∙ e)

    past : end ≡ run_end is_word_byte text start
    past = rw (whole) w.digits

    short : length (word_at text start) ≤ 6
    short = rw whole (omega (arith, run_length is_digit (window text start), length-take (min (length text - start) 6) (drop start text)))

    size : size_of (word_at text start) ≡ digits_of (word_at text start) → size_of (word_at text start) ≡ Size.Is value
    size d = d ∙ digits_are (word_at text start) value (rw whole (run-all is_digit (window text start))) (rw whole w.decimal)

    pub walked_none : end ≡ start → reading_at text at ≡ Err (record { at = at })
    walked_none n = refused-by (size-empty (word_at text start) (omega (arith, past)))

    module _ (n : end ≡ start → ⊥) where
      some : 0 < length (word_at text start)
      some = omega (arith, past)

      first : get_or (word_at text start) 0 0 ≡ get_or text start 0
      first = run-first is_word_byte (drop start text) some ∙ get_or-drop start text 0 0 ∙ ap (λ (i : ℕ). get_or text i 0) (add-zero start)

      found : size_of (word_at text start) ≡ digits_of (word_at text start) → (negative ≡ true → value ≡ 0 → ⊥)
          → reading_at text at ≡ Ok (record { negative = negative; size = value }, record { at = end })
      found d v = after-sign ∙ rw (size d, ← past) (by negative v)
        where
          by : (m : Bool) → (m ≡ true → value ≡ 0 → ⊥)
              → reading_if (signed m (Size.Is value)) at end ≡ Ok (record { negative = m; size = value }, record { at = end })
          by true v = rw (ne_eqb value 0 (v refl))
          by false v = refl

      -- a zero in front of digits, or after a minus
      pub walked-padded : get_or text start 0 ≡ 48 → (at + 1 ≡ end → ⊥) → reading_at text at ≡ Err (record { at = at })
      walked-padded z more =
          ⊎_elim
          (λ long. refused-by (size-padded (word_at text start) (first ∙ z) long short))
          (λ (one : length (word_at text start) ≤ 1). after-sign ∙ rw (size (size-zero (word_at text start) some one)) (by negative w.from one))
          (lt-or-le 1 (length (word_at text start)))
        where
          by : (m : Bool) → start ≡ at + bool_byte m → length (word_at text start) ≤ 1
              → reading_if (signed m (Size.Is value)) at (run_end is_word_byte text start) ≡ Err (record { at = at })
          by true f one = rw (w.decimal ∙ ap (decimal_from 0) (sym whole) ∙ decimal-zero (word_at text start) (omega (arith, some)) (first ∙ z))
          by false f one = absurd (more (omega (arith, past, some)))

      pub walked-zero : at + 1 ≡ end → reading_at text at ≡ Ok (record { negative = negative; size = value }, record { at = end })
      walked-zero last =
          found (size-zero (word_at text start) some (omega (arith, past, w.from))) (λ t v. let minus : start ≡ at + 1 = rw t at w.from in omega (arith, past, some))

      pub walked-number : (get_or text start 0 ≡ 48 → ⊥) → reading_at text at ≡ Ok (record { negative = negative; size = value }, record { at = end })
      walked-number z =
          let d = digit-range (get_or (word_at text start) 0 0) (all-at is_digit (word_at text start) 0 (rw whole (run-all is_digit (window text start))) 0 some) in
          let least : 0 < decimal_from 0 (word_at text start) = decimal-some (word_at text start) (omega (arith, d, first)) in
          found (size-digits (word_at text start) some short (λ y. z (sym first ∙ y))) (λ t v. omega (arith, least, w.decimal, ap (decimal_from 0) whole))
