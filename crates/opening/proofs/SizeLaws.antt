-- What a line says: the same bytes, the four words, and the first two of them one after the other. Assumes nothing.
use mathlib.Core.Path.{◌≡◌, refl, sym, ap, ◌∙◌}
use mathlib.Core.Bool.{Bool, true, false, cond, ◌&&◌, and-false}
use mathlib.Core.List.{List, [], ◌∷◌}
use mathlib.Core.Logic.{⊎_elim}
use Prim.Native.Nat.{ℕ, suc, ◌+◌, ◌≤◌, ◌<◌}
use native.Mathlib.Omega.{arith}
use borrow.Author.Tests.{eq-eqb, eqb-true}
use lib.ListN.{length, drop, get_or, length-drop}
use lib.Dec.{eqb}
use Rattle.std.proofs.Common.{None}
use Rattle.std.specs.Cmp.Lexicographic.{pointwise}
use Rattle.lists.proofs.Cases.{never, and_l, and_r, lt-or-le}
use Rattle.dimacs.specs.Words.{is_blank, is_word_byte, run, run_end, Piece, words_at}
use Rattle.dimacs.specs.Numbers.{Numeral, numeral_of, word_at}
use Rattle.dimacs.specs.declared.Number.{Number}
use Rattle.dimacs.proofs.Runs.{run-stop, run-within}
use Rattle.dimacs.proofs.WordLaws.{piece_at, no_word, next_word}
use Rattle.opening.specs.Problem.{same_bytes, sizes_if, four_words, sizes_of}
use Rattle.opening.proofs.NextNumber.{Missing, none, bad}

-- ---- the same bytes

-- the library's test is the paper's
pub same-pointwise : (a b : List ℕ) → pointwise eqb a b ≡ same_bytes a b
unfolding same_bytes
same-pointwise [] [] = refl
same-pointwise [] (y ∷ b) = refl
same-pointwise (x ∷ a) [] = refl
same-pointwise (x ∷ a) (y ∷ b) = ap (λ (t : Bool). eqb x y && t) (same-pointwise a b)

pub same-lengths : (a b : List ℕ) → (length a ≡ length b → ⊥) → same_bytes a b ≡ false
unfolding same_bytes
same-lengths [] [] e = absurd (e refl)
same-lengths [] (y ∷ b) e = refl
same-lengths (x ∷ a) [] e = refl
same-lengths (x ∷ a) (y ∷ b) e = rw (same-lengths a b (λ k. e (ap suc k)), and-false (eqb x y))

same-equal : (a b : List ℕ) → same_bytes a b ≡ true → a ≡ b
unfolding same_bytes
same-equal [] [] e = refl
same-equal [] (y ∷ b) e = never e
same-equal (x ∷ a) [] e = never e
same-equal (x ∷ a) (y ∷ b) e = rw (eqb-true x y (and_l (eqb x y) (same_bytes a b) e), same-equal a b (and_r (eqb x y) (same_bytes a b) e))

-- ---- the four words

abbrev word_p : List ℕ
word_p = 112 ∷ []

abbrev word_cnf : List ℕ
word_cnf = 99 ∷ 110 ∷ 102 ∷ []

not-p : (p : Piece) (ws : List Piece) → same_bytes p.bytes word_p ≡ false → four_words (p ∷ ws) ≡ None
unfolding four_words
not-p p [] e = refl
not-p p (cnf ∷ []) e = refl
not-p p (cnf ∷ n ∷ []) e = refl
not-p p (cnf ∷ n ∷ m ∷ []) e = rw e
not-p p (cnf ∷ n ∷ m ∷ more ∷ ws) e = refl

not-cnf : (p cnf : Piece) (ws : List Piece) → same_bytes cnf.bytes word_cnf ≡ false → four_words (p ∷ cnf ∷ ws) ≡ None
unfolding four_words
not-cnf p cnf [] e = refl
not-cnf p cnf (n ∷ []) e = refl
not-cnf p cnf (n ∷ m ∷ []) e = rw (e, and-false (same_bytes p.bytes word_p))
not-cnf p cnf (n ∷ m ∷ more ∷ ws) e = refl

module _ (p cnf : Piece) (is-p : same_bytes p.bytes word_p ≡ true) (is-cnf : same_bytes cnf.bytes word_cnf ≡ true) where
  pub first-missing : (ws : List Piece) → Missing ws → four_words (p ∷ cnf ∷ ws) ≡ None
  unfolding four_words
  first-missing [] none = refl
  first-missing (n ∷ []) (bad e) = refl
  first-missing (n ∷ m ∷ []) (bad e) = rw (is-p, is-cnf, e)
  first-missing (n ∷ m ∷ more ∷ ws) (bad e) = refl

  module _ (n : Piece) (x : Number) (is-n : numeral_of n.bytes ≡ Numeral.Is x) where
    pub second-missing : (ws : List Piece) → Missing ws → four_words (p ∷ cnf ∷ n ∷ ws) ≡ None
    unfolding four_words
    second-missing [] none = refl
    second-missing (m ∷ []) (bad e) = rw (is-p, is-cnf, is-n, e)
    second-missing (m ∷ more ∷ ws) (bad e) = refl

    pub two-numbers : (m : Piece) (y : Number) → numeral_of m.bytes ≡ Numeral.Is y → four_words (p ∷ cnf ∷ n ∷ m ∷ []) ≡ sizes_if (Numeral.Is x) (Numeral.Is y)
    unfolding four_words
    two-numbers m y is_m = rw (is-p, is-cnf, is-n, is_m)

pub five-words : (p cnf n m more : Piece) (ws : List Piece) → four_words (p ∷ cnf ∷ n ∷ m ∷ more ∷ ws) ≡ None
unfolding four_words
five-words p cnf n m more ws = refl

-- ---- the first two words

-- the first byte of a run that is not empty
run-first : (test : ℕ → Bool) (l : List ℕ) (b : ℕ) (r : List ℕ) → run test l ≡ b ∷ r → (0 < length l) × (get_or l 0 0 ≡ b)
unfolding run
run-first test [] b r e = never (cc)
run-first test (a ∷ l) b r e = by (test a) e
  where
    by : (t : Bool) → cond t (a ∷ run test l) [] ≡ b ∷ r → (0 < suc (length l)) × (a ≡ b)
    by true q = (omega arith, cc)
    by false q = never (cc)

module _ (line : List ℕ) where
  -- a line whose first byte is `p` starts with a word
  starts : 0 < length line → get_or line 0 0 ≡ 112 → words_at line 0 ≡ piece_at line 0 ∷ words_at line (run_end is_word_byte line 0)
  unfolding is_blank
  starts h e = next_word line 0 0 (sym (run-stop is_blank line 0 h (rw e))) h

  pub no-p : same_bytes (word_at line 0) word_p ≡ false → sizes_of line ≡ None
  unfolding sizes_of
  no-p e = by line refl (eqb (get_or line 0 0) 112) refl
    where
      by : (l : List ℕ) → line ≡ l → (t : Bool) → eqb (get_or line 0 0) 112 ≡ t → cond t (four_words (words_at line 0)) None ≡ None
      by l q false k = refl
      by [] q true k = never (rw q at k)
      by (b ∷ r) q true k =
          let some : 0 < length line = rw q (omega arith) in
          rw (starts some (eqb-true (get_or line 0 0) 112 k)) (not-p (piece_at line 0) (words_at line (run_end is_word_byte line 0)) e)

  pub record StartsP : Type 0 where
    pub some : 1 ≤ length line
    pub sizes : sizes_of line ≡ four_words (piece_at line 0 ∷ words_at line 1)

  pub starts-p : same_bytes (word_at line 0) word_p ≡ true → StartsP
  unfolding sizes_of
  starts-p e =
      let word : word_at line 0 ≡ word_p = same-equal (word_at line 0) word_p e in
      let first = run-first is_word_byte line 112 [] word in
      record {
        some = first.0;
        sizes = rw (eq-eqb (get_or line 0 0) 112 first.1, starts first.0 first.1) (ap (λ (w : List ℕ). four_words (piece_at line 0 ∷ words_at line (0 + length w))) word);
      }

  module _ (cnf : ℕ) (found : cnf ≡ run_end is_blank line 1) where
    pub no-cnf : same_bytes (word_at line cnf) word_cnf ≡ false → four_words (piece_at line 0 ∷ words_at line 1) ≡ None
    unfolding four_words
    no-cnf e =
        ⊎_elim (λ h. rw (next_word line 1 cnf found h) (not-cnf (piece_at line 0) (piece_at line cnf) (words_at line (run_end is_word_byte line cnf)) e))
        (λ h. rw (no_word line 1 cnf found h))
        (lt-or-le cnf (length line))

    pub record ThenCnf : Type 0 where
      pub within : cnf + 3 ≤ length line
      pub words : words_at line 1 ≡ piece_at line cnf ∷ words_at line (cnf + 3)

    pub then-cnf : same_bytes (word_at line cnf) word_cnf ≡ true → ThenCnf
    then-cnf e =
        let word : word_at line cnf ≡ word_cnf = same-equal (word_at line cnf) word_cnf e in
        let inside : cnf < length line = omega (arith, (run-first is_word_byte (drop cnf line) 99 (110 ∷ 102 ∷ []) word).0, length-drop cnf line) in
        record {
          within = omega (arith, run-within is_word_byte line cnf (omega arith), ap length word);
          words = next_word line 1 cnf found inside ∙ ap (λ (w : List ℕ). piece_at line cnf ∷ words_at line (cnf + length w)) word;
        }
