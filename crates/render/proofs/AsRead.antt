-- "Literals as read" (document 01, "Made formula"): a word that is a number other than 0 has the bytes that are written for its literal. A number has no leading
-- zeros and no sign before 0, so that its digits are the only ones of its value. Assumes nothing.
use mathlib.Core.Path.{◌≡◌, refl, sym, ap, ap₂, ◌∙◌}
use mathlib.Core.Bool.{Bool, true, false, not, cond, ◌&&◌}
use mathlib.Core.List.{List, [], ◌∷◌, ◌++◌, map, append-nil, append_assoc}
use mathlib.Core.Logic.{◌⊎◌, inl, inr}
use Prim.Native.Nat.{ℕ, ◌+◌, ◌-◌, ◌*◌, ◌/◌, ◌%◌, ◌^◌, ◌≤◌, ◌<◌}
use native.Mathlib.Omega.{arith}
use borrow.Author.Tests.{eq-eqb, ne_eqb, eqb-true, leb-true, le-leb, not-true}
use lib.Dec.{eqb, leb}
use lib.ListN.{length}
use Rattle.lists.specs.Tests.{all_of}
use Rattle.lists.proofs.Cases.{never, and_l, and_r, eq-or-ne}
use Rattle.dimacs.specs.Words.{Piece}
use Rattle.dimacs.specs.Numbers.{Size, Numeral, is_digit, decimal_from, digits_of, padded, size_of, positive, negated, numeral_of}
use Rattle.dimacs.proofs.NumberLaws.{digit-range, grow, up-to-six}
use Rattle.store.specs.Numerals.{is_numeral, numeral_code, code_in}
use Rattle.render.specs.Text.{decimal, literal_text, clause_line}
use Rattle.render.proofs.DigitLaws.{decimal-one, decimal-more}
use Rattle.render.proofs.LineLaws.{text-negative, text-plain}

-- ---- digits

-- digits behind those of v, which is not 0 and below 10 ^ i
digits-behind : (i v : ℕ) (ds : List ℕ) → 0 < v → v < 10 ^ i → i + length ds ≤ 6 → all_of is_digit ds ≡ true → decimal (decimal_from v ds) ≡ decimal v ++ ds
unfolding decimal_from all_of
digits-behind i v [] some low few all = sym (append-nil (decimal v))
digits-behind i v (b ∷ ds) some low few all =
    let d = digit-range b (and_l (is_digit b) (all_of is_digit ds) all) in
    let next : ℕ = v * 10 + (b - 48) in
    let less : next < 10 ^ (i + 1) = grow v (b - 48) i low (omega (arith, d)) in
    let tens : next / 10 ≡ v = omega (arith, d) in
    let last : next % 10 + 48 ≡ b = omega (arith, d) in
    digits-behind (i + 1) next ds (omega arith) less (omega arith) (and_r (is_digit b) (all_of is_digit ds) all)
    ∙ ap (λ (l : List ℕ). l ++ ds) (decimal-more next (omega (arith, up-to-six next (i + 1) less (omega arith))) (omega arith))
    ∙ ap₂ (λ (x c : ℕ). (decimal x ++ (c ∷ [])) ++ ds) tens last
    ∙ append_assoc (decimal v) (b ∷ []) ds

-- what makes a word's digits a size
record Digits (ds : List ℕ) (v : ℕ) : Type 0 where
  short : length ds ≤ 6
  plain : padded ds ≡ false
  all : all_of is_digit ds ≡ true
  some : 1 ≤ length ds
  value : decimal_from 0 ds ≡ v

abbrev is_size : Size → Bool
is_size (Size.Is v) = true
is_size Size.Not = false

abbrev value_in : Size → ℕ
value_in (Size.Is v) = v
value_in Size.Not = 0

digits_of_lem : (ds : List ℕ) (v : ℕ) → size_of ds ≡ Size.Is v → Digits ds v
unfolding size_of digits_of
digits_of_lem ds v e = go (leb 1 (length ds) && leb (length ds) 6 && not (padded ds)) refl (all_of is_digit ds) refl e
  where
    go : (shape : Bool) → (leb 1 (length ds) && leb (length ds) 6 && not (padded ds)) ≡ shape → (digits : Bool) → all_of is_digit ds ≡ digits
        → cond shape (cond digits (Size.Is (decimal_from 0 ds)) Size.Not) Size.Not ≡ Size.Is v → Digits ds v
    go true s true d e =
        let sizes = and_l (leb 1 (length ds) && leb (length ds) 6) (not (padded ds)) s in
        record {
          short = leb-true (length ds) 6 (and_r (leb 1 (length ds)) (leb (length ds) 6) sizes);
          plain = not-true (padded ds) (and_r (leb 1 (length ds) && leb (length ds) 6) (not (padded ds)) s);
          all = d;
          some = leb-true 1 (length ds) (and_l (leb 1 (length ds)) (leb (length ds) 6) sizes);
          value = ap value_in e;
        }
    go true s false d e = never (ap is_size e)
    go false s digits d e = never (ap is_size e)

-- a zero in front is alone
zero-alone : (ds : List ℕ) (v : ℕ) → Digits (48 ∷ ds) v → decimal v ≡ 48 ∷ ds
unfolding decimal_from
zero-alone [] v d = ap decimal (sym d.value) ∙ decimal-one 0 (omega arith)
zero-alone (c ∷ ds) v d = never (sym d.plain ∙ le-leb 2 (length (48 ∷ c ∷ ds)) (omega arith))

digits-written : (ds : List ℕ) (v : ℕ) → Digits ds v → decimal v ≡ ds
unfolding decimal_from all_of
digits-written [] v d = absurd (omega (arith, d.some))
digits-written (b ∷ ds) v d = go (eq-or-ne b 48)
  where
    go : (b ≡ 48) ⊎ (b ≡ 48 → ⊥) → decimal v ≡ b ∷ ds
    go (inl zero) = rw zero (zero-alone ds v (rw zero at d))
    go (inr other) =
        let first = digit-range b (and_l (is_digit b) (all_of is_digit ds) d.all) in
        let x : ℕ = 0 * 10 + (b - 48) in
        let back : x + 48 ≡ b = omega (arith, first) in
        ap decimal (sym d.value)
        ∙ digits-behind 1 x ds (omega (arith, first)) (omega (arith, first)) (omega (arith, d.short)) (and_r (is_digit b) (all_of is_digit ds) d.all)
        ∙ ap (λ (l : List ℕ). l ++ ds) (decimal-one x (omega (arith, first)))
        ∙ ap (λ (c : ℕ). c ∷ ds) back

-- ---- words

-- digits, or a minus and digits
plain-read : (ds : List ℕ) → is_numeral (positive (size_of ds)) ≡ true → literal_text (numeral_code (positive (size_of ds))) ≡ ds
plain-read ds is = go (size_of ds) refl is
  where
    go : (s : Size) → size_of ds ≡ s → is_numeral (positive s) ≡ true → literal_text (numeral_code (positive s)) ≡ ds
    go (Size.Is v) e is =
        text-plain (2 * v + 0) v (omega arith) (ne_eqb ((2 * v + 0) % 2) 1 (λ odd. omega arith)) ∙ digits-written ds v (digits_of_lem ds v e)
    go Size.Not e is = never is

minus-read : (ds : List ℕ) → is_numeral (negated (size_of ds)) ≡ true → literal_text (numeral_code (negated (size_of ds))) ≡ 45 ∷ ds
minus-read ds is = go (size_of ds) refl is
  where
    go : (s : Size) → size_of ds ≡ s → is_numeral (negated s) ≡ true → literal_text (numeral_code (negated s)) ≡ 45 ∷ ds
    go (Size.Is v) e is = by (eqb v 0) is
      where
        by : (zero : Bool) → is_numeral (cond zero Numeral.Not (Numeral.Is (record { negative = true; size = v }))) ≡ true
            → literal_text (numeral_code (cond zero Numeral.Not (Numeral.Is (record { negative = true; size = v })))) ≡ 45 ∷ ds
        by true is = never is
        by false is =
            text-negative (2 * v + 1) v (omega arith) (eq-eqb ((2 * v + 1) % 2) 1 (omega arith))
            ∙ ap (λ (l : List ℕ). 45 ∷ l) (digits-written ds v (digits_of_lem ds v e))
    go Size.Not e is = never is

bytes_read : (bytes : List ℕ) → is_numeral (numeral_of bytes) ≡ true → literal_text (numeral_code (numeral_of bytes)) ≡ bytes
unfolding numeral_of
bytes_read [] is = never is
bytes_read (b ∷ ds) is = go (eqb b 45) refl is
  where
    go : (minus : Bool) → eqb b 45 ≡ minus → is_numeral (cond minus (negated (size_of ds)) (positive (size_of (b ∷ ds)))) ≡ true
        → literal_text (numeral_code (cond minus (negated (size_of ds)) (positive (size_of (b ∷ ds))))) ≡ b ∷ ds
    go true e is = minus-read ds is ∙ ap (λ (c : ℕ). c ∷ ds) (sym (eqb-true b 45 e))
    go false e is = plain-read (b ∷ ds) is

-- a word that is a number is written as it was read, the closing 0 too
abbrev pub is_number : Piece → Bool
is_number w = is_numeral (numeral_of w.bytes)

pub literal-as-read : (w : Piece) → is_number w ≡ true → literal_text (code_in w) ≡ w.bytes
unfolding code_in
literal-as-read w is = bytes_read w.bytes is

-- "one line a clause, literals as read, one space between, ` 0` and a line feed": the words of a clause, and the one that closes it
unfoldable pub spaced : List Piece → Piece → List ℕ
spaced [] closing = closing.bytes ++ 10 ∷ []
spaced (w ∷ words) closing = w.bytes ++ 32 ∷ spaced words closing

pub clause-as-read : (words : List Piece) (closing : Piece) → all_of is_number words ≡ true → is_number closing ≡ true → code_in closing ≡ 0
    → clause_line (map code_in words) ≡ spaced words closing
unfolding clause_line spaced all_of
clause-as-read [] closing all is zero =
    ap (λ (l : List ℕ). l ++ 10 ∷ []) (sym (text-plain 0 0 refl refl ∙ decimal-one 0 (omega arith)) ∙ ap literal_text (sym zero) ∙ literal-as-read closing is)
clause-as-read (w ∷ words) closing all is zero =
    ap₂ (λ (a b : List ℕ). a ++ 32 ∷ b) (literal-as-read w (and_l (is_number w) (all_of is_number words) all))
    (clause-as-read words closing (and_r (is_number w) (all_of is_number words) all) is zero)
