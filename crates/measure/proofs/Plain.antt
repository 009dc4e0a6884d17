-- What is added up over all literals in use is what is added up clause by clause, as the ends cut them. Assumes nothing.
use mathlib.Core.Path.{◌≡◌, refl, sym, ap, ◌∙◌}
use mathlib.Core.Bool.{true}
use mathlib.Core.List.{List, [], ◌∷◌, ◌++◌}
use Prim.Native.Nat.{ℕ, zero, suc, ◌+◌, ◌-◌, ◌≤◌}
use native.Mathlib.Omega.{arith}
use borrow.Author.Tests.{leb-true}
use lib.Dec.{leb}
use lib.ListN.{length, get_or, take, length-append, take-append-drop}
use lib.Seq.{slice, take-take, get_or-take, length-take-le}
use Rattle.lists.specs.Sums.{sum_of}
use Rattle.lists.specs.Tests.{all_of}
use Rattle.lists.proofs.Cases.{and_l, and_r}
use Rattle.lists.proofs.Members.{all-at, all_in}
use Rattle.lists.proofs.Sums.{sum-append}
use Rattle.store.specs.Literals.{is_literal}
use Rattle.store.specs.Stores.{Store, max_variables, rising, literal_count, cut, plain_of, is_formed}
use Rattle.store.proofs.Cuts.{start-at}
use Rattle.store.proofs.FormLaws.{literal-low, literal-high, literal-within, count_none, count-last}
use Rattle.store.proofs.Demands.{used, rest_of}
use Rattle.measure.specs.Shares.{word_bytes, words_of}

-- for whatever adds up over a list in two parts
module _ (g : List ℕ → ℕ) (none : g [] ≡ 0) (parts : (a b : List ℕ) → g (a ++ b) ≡ g a + g b) where
  part-more : (from to : ℕ) (l : List ℕ) → from ≤ to → g (take from l) + g (slice from to l) ≡ g (take to l)
  part-more from to l h =
      sym (parts (take from l) (slice from to l)) ∙ ap (λ (a : List ℕ). g (a ++ slice from to l)) (sym (take-take from to l h)) ∙ ap g (take-append-drop from (take to l))

  cut-more : (from : ℕ) (literals ends : List ℕ) → rising from ends ≡ true
      → g (take from literals) + sum_of g (cut from literals ends) ≡ g (take (get_or (from ∷ ends) (length ends) 0) literals)
  unfolding rising cut sum_of
  cut-more from literals [] e = omega arith
  cut-more from literals (end ∷ ends) e =
      let onward = leb-true from end (and_l (leb from end) (rising end ends) e) in
      omega (arith, part-more from end literals onward, cut-more end literals ends (and_r (leb from end) (rising end ends) e))

  pub plain-sum : (s : Store) → is_formed s ≡ true → sum_of g (plain_of s) ≡ g (take (used s) s.literals)
  unfolding plain_of
  plain-sum s well =
      let m : ℕ = s.counts.clauses in
      let r = rest_of s well in
      let first : List ℕ = take m s.ends in
      let size : length first ≡ m = length-take-le m s.ends r.ends-long in
      let last : get_or (0 ∷ first) (length first) 0 ≡ used s = ap (λ (k : ℕ). get_or (0 ∷ first) k 0) size ∙ sym (start-at m first) ∙ count-take m s.ends in
      omega (arith, none, cut-more 0 s.literals first r.ends-rise, ap (λ (k : ℕ). g (take k s.literals)) last)
    where
      count-take : (m : ℕ) (ends : List ℕ) → literal_count m (take m ends) ≡ literal_count m ends
      count-take zero ends = count_none 0 (take 0 ends) refl ∙ sym (count_none 0 ends refl)
      count-take (suc m) ends =
          count-last (suc m) (take (suc m) ends) (λ e. omega arith) ∙ get_or-take (suc m) ends (suc m - 1) 0 (omega arith) ∙ sym (count-last (suc m) ends (λ e. omega arith))

-- the literals of the plain formula, and their bytes
module _ (s : Store) (well : is_formed s ≡ true) where
  pub plain-literals : sum_of length (plain_of s) ≡ used s
  plain-literals = plain-sum length refl length-append s well ∙ length-take-le (used s) s.literals (rest_of s well).literals-long

  -- none of them is beyond the most variables
  pub literals-small : all_of (is_literal max_variables) (take (used s) s.literals) ≡ true
  literals-small =
      let n : ℕ = s.counts.variables in
      let r = rest_of s well in
      all_in (is_literal max_variables) (take (used s) s.literals) 0 (λ i h.
      let good = all-at (is_literal n) (take (used s) s.literals) 0 r.literals-good i h in
      literal-within max_variables _ (literal-low n _ good) (omega (arith, literal-high n _ good, r.variables-fit)))

  pub plain-words : words_of (plain_of s) ≡ sum_of word_bytes (take (used s) s.literals)
  unfolding sum_of
  plain-words = plain-sum (sum_of word_bytes) refl (sum-append word_bytes) s well
