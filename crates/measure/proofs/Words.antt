-- Lines by their literals, each with the space after it: a line has two bytes besides. Assumes nothing.
use mathlib.Core.Path.{◌≡◌, refl, sym}
use mathlib.Core.Bool.{Bool, true, false}
use mathlib.Core.List.{List, [], ◌∷◌}
use Prim.Native.Nat.{ℕ, ◌+◌, ◌*◌, ◌%◌}
use native.Mathlib.Omega.{arith}
use mir.Val.{bool_byte}
use borrow.Author.Tests.{eqb-true, eqb-false}
use lib.ListN.{length, length-append}
use Rattle.lists.specs.Sums.{sum_of}
use Rattle.store.specs.Literals.{variable_of, is_negative}
use Rattle.render.specs.Text.{decimal, literal_text, clause_line}
use Rattle.render.proofs.LineLaws.{text-length}
use Rattle.emit.specs.Emit.{lines_of}
use Rattle.measure.specs.Shares.{word_bytes, words_of}

-- a literal has its digits, and a byte for its sign
pub word-digits : (code : ℕ) → word_bytes code ≡ length (decimal (variable_of code)) + code % 2 + 1
unfolding word_bytes
word-digits code = omega (arith, text-length code _ refl (is_negative code) refl, sign (is_negative code) refl)
  where
    sign : (b : Bool) → is_negative code ≡ b → bool_byte b ≡ code % 2
    sign true e = sym (eqb-true (code % 2) 1 e)
    sign false e = let even = eqb-false (code % 2) 1 e in omega arith

pub line-words : (clause : List ℕ) → length (clause_line clause) ≡ sum_of word_bytes clause + 2
unfolding clause_line sum_of word_bytes
line-words [] = refl
line-words (code ∷ clause) = omega (arith, length-append (literal_text code) (32 ∷ clause_line clause), line-words clause)

pub lines-words : (clauses : List (List ℕ)) → length (lines_of clauses) ≡ words_of clauses + 2 * length clauses
unfolding lines_of sum_of
lines-words [] = refl
lines-words (clause ∷ clauses) = omega (arith, length-append (clause_line clause) (lines_of clauses), line-words clause, lines-words clauses)
