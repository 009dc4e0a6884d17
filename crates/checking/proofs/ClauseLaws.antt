-- The literals of a clause tried one after another. `b` is the value that was read for literal i, by the contract of `valuation::literal_value`. Assumes nothing.
use mathlib.Core.Path.{◌≡◌, sym, ◌∙◌}
use mathlib.Core.Bool.{Bool, true, false}
use mathlib.Core.List.{List}
use Prim.Native.Nat.{ℕ, ◌+◌, ◌/◌, ◌≤◌, ◌<◌}
use lib.ListN.{length, get_or, drop}
use Rattle.lists.specs.Tests.{any_of, all_of}
use Rattle.lists.proofs.Members.{all-at}
use Rattle.lists.proofs.Steps.{any-drop-hit, any-drop-miss, any-drop-end}
use Rattle.packed.specs.Words.{bits_of}
use Rattle.packed.specs.Order.{value_of}
use Rattle.store.specs.Literals.{is_literal}
use Rattle.store.proofs.FormLaws.{literal-low, literal-high}
use Rattle.lexleader.specs.Models.{literal_value, clause_holds}

module _ (a clause : List ℕ) where
  abbrev value : ℕ → ℕ → Bool
  value n code = literal_value (value_of (bits_of n a)) code

  -- the clause holds exactly when one of the literals from i on is true
  abbrev pub Tried : ℕ → Type 0
  Tried i = (n : ℕ) → all_of (is_literal n) clause ≡ true → clause_holds (value_of (bits_of n a)) clause ≡ any_of (value n) (drop i clause)

  -- b is whether the clause holds
  abbrev Says : Bool → Type 0
  Says b = (n : ℕ) → all_of (is_literal n) clause ≡ true → b ≡ clause_holds (value_of (bits_of n a)) clause

  module _ (i : ℕ) (t : Tried i) where
    pub tried-all : length clause ≤ i → Says false
    tried-all h n within = sym (t n within ∙ any-drop-end (value n) clause i h)

    module _ (h : i < length clause) where
      -- the literal's variable is one of 1..n where all of the clause are
      pub variable-within : (n : ℕ) → all_of (is_literal n) clause ≡ true → (1 ≤ get_or clause i 0 / 2) × (get_or clause i 0 / 2 ≤ n)
      variable-within n within = let e = all-at (is_literal n) clause 0 within i h in (literal-low n (get_or clause i 0) e, literal-high n (get_or clause i 0) e)

      module _ (b : Bool) (read : (n : ℕ) → get_or clause i 0 / 2 ≤ n → b ≡ value n (get_or clause i 0)) where
        is : (n : ℕ) → all_of (is_literal n) clause ≡ true → b ≡ value n (get_or clause i 0)
        is n within = read n (variable-within n within).1

        pub tried-true : b ≡ true → Says true
        tried-true e n within = sym (t n within ∙ any-drop-hit (value n) clause i 0 h (sym (is n within) ∙ e))

        pub tried-false : b ≡ false → Tried (i + 1)
        tried-false e n within = t n within ∙ any-drop-miss (value n) clause i 0 h (sym (is n within) ∙ e)
