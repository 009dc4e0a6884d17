-- What the walk of the names hands to the walk of the values: definitions of the code's making. Assumes nothing.
use Rattle.std.specs.Prelude.{◌≡◌, Bool, true, false, List, ℕ, ◌≤◌, length, get_or, take, Result, Some, None, Ok, Err}
use Rattle.lists.specs.Tests.{has, distinct}
use Rattle.dimacs.specs.Words.{words_at}
use Rattle.permutation.specs.Lines.{bad_name, names_on}

-- names that all differ, each in 1..n
pub record Named (n : ℕ) (names : List ℕ) : Type 0 where
  pub low : (v : ℕ) → has names v ≡ true → 1 ≤ v
  pub high : (v : ℕ) → has names v ≡ true → v ≤ n
  pub differ : distinct names ≡ true

-- 513 marks, of which the one at v says whether v passes a test
pub record Marks (test : ℕ → Bool) (marks : List Bool) : Type 0 where
  pub room : length marks ≡ 513
  pub is : (v : ℕ) → get_or marks v false ≡ test v

-- a line on which rule 8 finds no fault: its names are the first `count` of `order`, and are marked
pub record Listed (n : ℕ) (line : List ℕ) (marks : List Bool) (order : List ℕ) (count : ℕ) : Type 0 where
  pub good : bad_name n (length line) (words_at line 0) ≡ None
  pub fits : count ≤ length order
  pub names : take count order ≡ names_on line
  pub named : Named n (take count order)
  pub marked : Marks (has (take count order)) marks

-- what the walk of the names finds: all of them, or where the first bad one stands
abbrev pub Walked : ℕ → List ℕ → List Bool → List ℕ → Result ℕ ℕ → Type 0
Walked n line marks order (Ok count) = Listed n line marks order count
Walked n line marks order (Err place) = bad_name n (length line) (words_at line 0) ≡ Some place
