-- The spaces in the made formula's text: one after each literal, and three in the header. Assumes nothing.
use mathlib.Core.Path.{◌≡◌, refl}
use mathlib.Core.Bool.{Bool, true, false, cond}
use mathlib.Core.List.{List, [], ◌∷◌, ◌++◌}
use Prim.Native.Nat.{ℕ, zero, suc, ◌+◌, ◌/◌, ◌%◌}
use native.Mathlib.Omega.{arith}
use borrow.Author.Tests.{ne_eqb}
use lib.Dec.{ltb}
use lib.ListN.{length}
use Rattle.lists.specs.Sums.{sum_of}
use Rattle.lists.proofs.Sums.{sum-append}
use Rattle.store.specs.Literals.{variable_of, is_negative}
use Rattle.store.specs.Stores.{Store}
use Rattle.lexleader.specs.Store.{made_of, variables_of, clauses_of}
use Rattle.render.specs.Text.{decimal_in, max_digits, decimal, literal_text, clause_line, two_numbers, header_line}
use Rattle.emit.specs.Emit.{header_of, lines_of, text_of}
use Rattle.demands.specs.Figures.{is_space, spaces_in}

spaces-append : (a b : List ℕ) → spaces_in (a ++ b) ≡ spaces_in a + spaces_in b
spaces-append a b = sum-append is_space a b

-- a digit is none
digit : (x : ℕ) → is_space (x + 48) ≡ 0
digit x = rw (ne_eqb (x + 48) 32 (λ e. omega arith))

in-digits : (f x : ℕ) → spaces_in (decimal_in f x) ≡ 0
unfolding decimal_in sum_of
in-digits zero x = refl
in-digits (suc f) x = by (ltb x 10) (in-digits f (x / 10))
  where
    by : (small : Bool) → spaces_in (decimal_in f (x / 10)) ≡ 0
        → spaces_in (cond small ((x + 48) ∷ []) (decimal_in f (x / 10) ++ ((x % 10 + 48) ∷ []))) ≡ 0
    by true rest = omega (arith, digit x)
    by false rest = omega (arith, rest, digit (x % 10), spaces-append (decimal_in f (x / 10)) ((x % 10 + 48) ∷ []))

in-number : (x : ℕ) → spaces_in (decimal x) ≡ 0
unfolding decimal
in-number x = in-digits max_digits x

in-literal : (code : ℕ) → spaces_in (literal_text code) ≡ 0
unfolding literal_text sum_of
in-literal code = by (is_negative code)
  where
    by : (negative : Bool) → spaces_in (cond negative (45 ∷ decimal (variable_of code)) (decimal (variable_of code))) ≡ 0
    by true = omega (arith, in-number (variable_of code))
    by false = in-number (variable_of code)

in-line : (clause : List ℕ) → spaces_in (clause_line clause) ≡ length clause
unfolding clause_line sum_of
in-line [] = refl
in-line (code ∷ clause) = omega (arith, spaces-append (literal_text code) (32 ∷ clause_line clause), in-literal code, in-line clause)

in_lines : (clauses : List (List ℕ)) → spaces_in (lines_of clauses) ≡ sum_of length clauses
unfolding lines_of sum_of
in_lines [] = refl
in_lines (clause ∷ clauses) = omega (arith, spaces-append (clause_line clause) (lines_of clauses), in-line clause, in_lines clauses)

in_two : (a b : ℕ) → spaces_in (two_numbers a b) ≡ 1
unfolding two_numbers sum_of
in_two a b = simp spaces-append (omega (arith, in-number a, in-number b))

in-header : (variables clauses : ℕ) → spaces_in (header_line variables clauses) ≡ 3
unfolding header_line sum_of
in-header variables clauses = omega (arith, in_two variables clauses)

pub in-text : (s : Store) → spaces_in (text_of s) ≡ 3 + sum_of length (made_of s)
unfolding text_of header_of
in-text s =
    omega (
      arith,
      spaces-append (header_line (variables_of s) (clauses_of s)) (lines_of (made_of s)),
      in-header (variables_of s) (clauses_of s),
      in_lines (made_of s),
    )
