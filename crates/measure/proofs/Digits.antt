-- The bytes of pairs and of auxiliaries by digits. Assumes nothing.
use mathlib.Core.Path.{◌≡◌, ap}
use Prim.Native.Nat.{ℕ, zero, suc, ◌+◌, ◌-◌, ◌*◌, ◌%◌, ◌≤◌, ◌<◌}
use native.Mathlib.Omega.{arith}
use lib.ListN.{length}
use Rattle.store.specs.Literals.{variable_of, opposite_of}
use Rattle.store.proofs.FormLaws.{opposite-is}
use Rattle.lexleader.specs.Rows.{Pair}
use Rattle.render.specs.Text.{max_digits, decimal}
use Rattle.render.specs.Digits.{run_digits}
use Rattle.render.proofs.DigitLaws.{run-most}
use Rattle.measure.specs.Shares.{word_bytes, plain_bytes, order_bytes, agree_bytes, pair_bytes, own_bytes, link_bytes, later_bytes, auxiliary_bytes}
use Rattle.measure.proofs.Words.{word-digits}

-- a literal and its opposite together: the digits of both, one sign, two spaces
both-digits : (code : ℕ) → word_bytes code + word_bytes (opposite_of code) ≡ 2 * length (decimal (variable_of code)) + 3
both-digits code =
    let o = opposite-is code in
    omega (arith, word-digits code, word-digits (opposite_of code), ap (λ (v : ℕ). length (decimal v)) o.0, o.1)

-- a variable, which is not negative, and its opposite
module _ (v : ℕ) where
  abbrev digits : ℕ
  digits = length (decimal v)

  own : variable_of (2 * v) ≡ v
  own = omega arith

  pub plain-digits : word_bytes (2 * v) ≡ digits + 1
  plain-digits = omega (arith, word-digits (2 * v), ap (λ (k : ℕ). length (decimal k)) own)

  pub opposite-digits : word_bytes (opposite_of (2 * v)) ≡ digits + 2
  opposite-digits = omega (arith, plain-digits, both-digits (2 * v), ap (λ (k : ℕ). length (decimal k)) own)

-- ---- a pair

module _ (x y : ℕ) where
  abbrev pair : Pair
  pair = record { x = 2 * x; y = y }

  pub agree-digits : agree_bytes pair ≡ 4 * plain_bytes x (variable_of y)
  unfolding agree_bytes
  agree-digits = omega (arith, plain-digits x, opposite-digits x, both-digits y)

  pub pair-digits : pair_bytes pair ≡ 5 * plain_bytes x (variable_of y) + y % 2
  unfolding pair_bytes order_bytes
  pair-digits = omega (arith, agree-digits, opposite-digits x, word-digits y)

-- ---- auxiliaries: each stands nine times, but the first one time less, and the last three times less

own-digits : (e : ℕ) → own_bytes e ≡ 5 * digits e + 8
unfolding own_bytes
own-digits e = omega (arith, plain-digits e, opposite-digits e)

link-digits : (e d : ℕ) → link_bytes e d ≡ digits e + 3 * digits d + 7
unfolding link_bytes
link-digits e d = omega (arith, opposite-digits e, plain-digits d, opposite-digits d)

later-digits : (d count : ℕ) → later_bytes d count + 3 * digits (d + count) ≡ 9 * run_digits (d + 1) count + 15 * count + 3 * digits d
unfolding later_bytes run_digits
later-digits d zero = let same : d + 0 ≡ d = omega arith in omega (arith, ap digits same)
later-digits d (suc count) =
    let last : d + 1 + count ≡ d + suc count = omega arith in
    omega (arith, link-digits (d + 1) d, own-digits (d + 1), later-digits (d + 1) count, ap digits last)

pub auxiliary-digits : (e count : ℕ) → 0 < count
    → auxiliary_bytes e count + digits e + 3 * digits (e + count - 1) + 7 ≡ 9 * run_digits e count + 15 * count
unfolding auxiliary_bytes run_digits
auxiliary-digits e zero some = absurd (omega arith)
auxiliary-digits e (suc count) some =
    let last : e + suc count - 1 ≡ e + count = omega arith in
    omega (arith, own-digits e, later-digits e count, ap digits last)

pub auxiliary-most : (e count : ℕ) → auxiliary_bytes e count ≤ (9 * max_digits + 15) * count
unfolding auxiliary_bytes
auxiliary-most e zero = omega arith
auxiliary-most e (suc count) = omega (arith, auxiliary-digits e (suc count) (omega arith), run-most e (suc count))
