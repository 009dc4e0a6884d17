-- Literals, clauses and the header as bytes: their lengths, and how a loop over a clause measures and writes its line. Assumes nothing.
use mathlib.Core.Path.{◌≡◌, refl, sym, ap, ◌∙◌}
use mathlib.Core.Bool.{Bool, true, false}
use mathlib.Core.List.{List, [], ◌∷◌, ◌++◌, append_assoc, map}
use Prim.Native.Nat.{ℕ, suc, ◌+◌, ◌*◌, ◌^◌, ◌≤◌, ◌<◌, zero-le, suc-le-suc}
use native.Mathlib.Nat.{add-zero, mul-suc}
use native.Mathlib.Omega.{arith}
use mir.Val.{bool_byte}
use lib.ListN.{length, set, get_or, drop, length-append, drop_of_length-le}
use Rattle.std.proofs.lemmas.List.{length-map, get_or-map}
use Rattle.lists.proofs.Steps.{drop-step}
use Rattle.store.specs.Literals.{variable_of, is_negative}
use Rattle.store.specs.Stores.{max_literals}
use Rattle.render.specs.Text.{max_digits, decimal, literal_text, clause_line, two_numbers, header_line, refusal_line, written_at}
use Rattle.render.proofs.DigitLaws.{digits-some, digits-most, digits-below}
use Rattle.render.proofs.Writing.{Wrote, Put, put_byte, put-over, put_then, length-written, written-written}

-- ---- a literal

module _ (code v : ℕ) (is : v ≡ variable_of code) where
  pub text-negative : is_negative code ≡ true → literal_text code ≡ 45 ∷ decimal v
  unfolding literal_text
  text-negative e = rw (e, is)

  pub text-plain : is_negative code ≡ false → literal_text code ≡ decimal v
  unfolding literal_text
  text-plain e = rw (e, is)

  -- its digits, and a byte more for the sign
  pub text-length : (b : Bool) → b ≡ is_negative code → length (literal_text code) ≡ length (decimal v) + bool_byte b
  text-length true e = omega (arith, ap length (text-negative (sym e)))
  text-length false e = omega (arith, ap length (text-plain (sym e)))

  -- `-` and then the digits, after it or over it
  pub put-text : {at next : ℕ} {buffer out : List ℕ} (b : Bool) → b ≡ is_negative code → Put (at + bool_byte b) (decimal v) (set buffer at 45) next out
      → Put at (literal_text code) buffer next out
  put-text {at} {next} {buffer} true e p = rw (text-negative (sym e)) (put_then (put_byte at 45 buffer) p)
  put-text false e p = rw (text-plain (sym e)) (put-over 45 (digits-some v) (rw add-zero at p))

pub sign-most : (b : Bool) → bool_byte b ≤ 1
sign-most true = omega arith
sign-most false = omega arith

module _ (code : ℕ) where
  text-most : length (literal_text code) ≤ length (decimal (variable_of code)) + 1
  text-most = omega (arith, text-length code _ refl (is_negative code) refl, sign-most (is_negative code))

  pub text-some : 0 < length (literal_text code)
  text-some = omega (arith, text-length code _ refl (is_negative code) refl, digits-some (variable_of code))

-- ---- lines of two numbers

pub length_two : (a b : ℕ) → length (two_numbers a b) ≡ length (decimal a) + length (decimal b) + 2
unfolding two_numbers
length_two a b = simp length-append (omega arith)

pub length-header : (variables clauses : ℕ) → length (header_line variables clauses) ≡ length (decimal variables) + length (decimal clauses) + 8
unfolding header_line
length-header variables clauses = omega (arith, length_two variables clauses)

pub length-refusal : (number place : ℕ) → length (refusal_line number place) ≡ length (decimal number) + length (decimal place) + 10
unfolding refusal_line
length-refusal number place = omega (arith, length_two number place)

-- fewer than 100,000 variables and 1,000,000 clauses
pub header-within : (variables clauses : ℕ) → variables < 10 ^ 5 → clauses < 10 ^ 6 → length (header_line variables clauses) ≤ 19
header-within variables clauses few many = omega (arith, length-header variables clauses, digits-below 4 variables few, digits-below 5 clauses many)

-- ---- a clause's line, from the literal i on

abbrev pub word_text : ℕ → List ℕ
word_text code = literal_text code ++ 32 ∷ []

-- the code that a clause has at i
pub record CodeAt (clause : List ℕ) (i code : ℕ) : Type 0 where
  pub inside : i < length clause
  pub is : code ≡ get_or clause i 0

-- it is that of what a slice has there
pub code-at : {X : Type 0} (f : X → ℕ) (xs : List X) (i : ℕ) {x : X} {code : ℕ} → i < length xs → x ≡ get_or xs i x → code ≡ f x → CodeAt (map f xs) i code
code-at f xs i {x} h read e = record { inside = rw length-map h; is = e ∙ ap f read ∙ sym (get_or-map f xs i x 0 h) }

module _ (clause : List ℕ) (i : ℕ) where
  -- its word, and the rest
  module _ {code : ℕ} (a : CodeAt clause i code) where
    line_at : clause_line (drop i clause) ≡ word_text code ++ clause_line (drop (i + 1) clause)
    unfolding clause_line
    line_at = rw (a.is, drop-step clause i 0 a.inside) (sym (append_assoc (literal_text (get_or clause i 0)) (32 ∷ []) (clause_line (drop (i + 1) clause))))

    length_at : length (clause_line (drop i clause)) ≡ length (word_text code) + length (clause_line (drop (i + 1) clause))
    length_at = ap length line_at ∙ length-append (word_text code) (clause_line (drop (i + 1) clause))

  -- or the line's end
  line-end : length clause ≤ i → clause_line (drop i clause) ≡ clause_line []
  line-end h = ap clause_line (drop_of_length-le clause h)

-- at most k bytes to a literal make a line of at most k + 1 bytes to a literal, and 2
line-most : (k : ℕ) (clause : List ℕ) → ((i : ℕ) → i < length clause → length (literal_text (get_or clause i 0)) ≤ k)
    → length (clause_line clause) ≤ (k + 1) * length clause + 2
unfolding clause_line
line-most k [] f = omega arith
line-most k (code ∷ clause) f =
    omega (
      arith,
      f 0 (suc-le-suc zero-le),
      line-most k clause (λ i h. f (suc i) (suc-le-suc h)),
      length-append (literal_text code) (32 ∷ clause_line clause),
      mul-suc (k + 1) (length clause),
    )

pub line-some : (clause : List ℕ) → 0 < length (clause_line clause)
unfolding clause_line
line-some [] = omega arith
line-some (code ∷ clause) = omega (arith, length-append (literal_text code) (32 ∷ clause_line clause))

-- a literal of any variable has a sign and the digits of a number
pub line-short : (clause : List ℕ) → length (clause_line clause) ≤ (max_digits + 2) * length clause + 2
line-short clause = line-most (max_digits + 1) clause (λ k _. omega (arith, text-most (get_or clause k 0), digits-most (variable_of (get_or clause k 0))))

-- one of a variable below 100,000 has at most 6 bytes
pub line-within : (clause : List ℕ) → ((i : ℕ) → i < length clause → variable_of (get_or clause i 0) < 10 ^ 5) → length (clause_line clause) ≤ 7 * length clause + 2
line-within clause f = line-most 6 clause (λ i h. omega (arith, text-most (get_or clause i 0), digits-below 4 (variable_of (get_or clause i 0)) (f i h)))

-- ---- a clause's line measured: n bytes for the literals before i and the line's end

pub record Measured (clause : List ℕ) (i n : ℕ) : Type 0 where
  pub fits : length clause ≤ max_literals
  pub sum : n + length (clause_line (drop i clause)) ≡ length (clause_line clause) + 2

module _ {clause : List ℕ} {i n : ℕ} (g : Measured clause i n) where
  -- w bytes for the literal i
  module _ {code w : ℕ} (a : CodeAt clause i code) (d : w ≡ length (literal_text code)) where
    pub measured-more : Measured clause (i + 1) (n + (w + 1))
    measured-more = record { fits = g.fits; sum = omega (arith, g.sum, length_at clause i a, length-append (literal_text code) (32 ∷ [])) }

    pub measured-fits : n + (w + 1) < 2 ^ 32
    measured-fits = omega (arith, g.fits, measured-more.sum, line-short clause)

  pub measured-all : length clause ≤ i → n ≡ length (clause_line clause)
  unfolding clause_line
  measured-all h = omega (arith, g.sum, ap length (line-end clause i h))

-- ---- a clause's line written: the bytes from the literal i on are still to be written, from `next` on

pub record Line (clause : List ℕ) (at : ℕ) (buffer : List ℕ) (i next : ℕ) (out : List ℕ) : Type 0 where
  pub place : at + length (clause_line clause) ≡ next + length (clause_line (drop i clause))
  pub room : next + length (clause_line (drop i clause)) ≤ length out
  pub size : length out ≡ length buffer
  pub bytes : written_at at (clause_line clause) buffer ≡ written_at next (clause_line (drop i clause)) out

module _ {clause : List ℕ} {at : ℕ} {buffer : List ℕ} {i next : ℕ} {out : List ℕ} (g : Line clause at buffer i next out) where
  -- the word of the literal i
  module _ {code : ℕ} (a : CodeAt clause i code) where
    pub word_room : next + length (word_text code) ≤ length out
    word_room = omega (arith, g.room, length_at clause i a)

    pub line-more : {end : ℕ} {made : List ℕ} → Wrote next (word_text code) out end made → Line clause at buffer (i + 1) end made
    line-more {end} {made} p =
        let same : length made ≡ length out = ap length p.1 ∙ length-written next (word_text code) out word_room in
        let l = length_at clause i a in
        record {
          place = omega (arith, g.place, p.0);
          room = omega (arith, g.room, p.0);
          size = same ∙ g.size;
          bytes = g.bytes
              ∙ ap (λ (bytes : List ℕ). written_at next bytes out) (line_at clause i a)
              ∙ sym (rw (p.0, p.1) (written-written next (word_text code) (clause_line (drop (i + 1) clause)) out (omega (arith, g.room))));
        }
