-- What a trial finds is what the request asks for, of every assignment that has the values lent at the row's moved variables and their images. Assumes nothing.
use mathlib.Core.Path.{◌≡◌, refl, sym, ap, ◌∙◌}
use mathlib.Core.Bool.{Bool, false}
use mathlib.Core.List.{List}
use Prim.Native.Nat.{ℕ, ◌-◌, ◌*◌, ◌≤◌}
use native.Mathlib.Omega.{arith}
use lib.ListN.{length, get_or}
use Rattle.lists.proofs.Members.{map_at}
use Rattle.packed.specs.Order.{value_of, first_difference}
use Rattle.packed.proofs.OrderLaws.{difference-zero, difference-first, difference-here, difference-within}
use Rattle.lexleader.specs.Models.{literal_value}
use Rattle.lexleader.specs.Rows.{moved, moved_pairs}
use Rattle.lexleader.specs.Deciding.{deciding, lowers_along, SameAlong}
use Rattle.lexleader.proofs.Images.{length_moved}
use Rattle.lexleader.proofs.Truth.{value-positive}
use Rattle.lexleader.proofs.Pairs.{lowers-same, deciding-same}
use Rattle.lexleader.proofs.Moved.{along-moved, deciding-moved}
use Rattle.trial.specs.Answer.{Answers}

-- a variable that stays has its own value in A moved
pub stays_same : (row : List ℕ) (a : List Bool) (i : ℕ) → 1 ≤ i → i ≤ length row → get_or row (i - 1) 0 ≡ 2 * i → value_of (moved row a) i ≡ value_of a i
unfolding moved
stays_same row a i low high e =
    map_at (literal_value (value_of a)) row (i - 1) 0 false (omega arith) ∙ ap (literal_value (value_of a)) e ∙ value-positive (value_of a) i

module _ (row : List ℕ) (a : List Bool) (size : length a ≡ length row) (value : ℕ → Bool) (same : SameAlong (moved_pairs row) value (literal_value (value_of a))) where
  alike : length a ≡ length (moved row a)
  alike = size ∙ sym (length_moved row a)

  within : first_difference a (moved row a) ≤ length row
  within = omega (arith, size, difference-within a (moved row a))

  pub trial-answers : Answers row a (lowers_along value (moved_pairs row)) (deciding value (moved_pairs row))
  trial-answers =
      let at = deciding-same value (literal_value (value_of a)) (moved_pairs row) same ∙ deciding-moved row a size in
      rw at (record {
        says = lowers-same value (literal_value (value_of a)) (moved_pairs row) same ∙ along-moved row a size;
        compared = refl;
        within = within;
        is-moved = λ h e. difference-here a (moved row a) alike h (sym (stays_same row a _ h within e));
        differs = difference-here a (moved row a) alike;
        least = λ i low h. difference-first a (moved row a) i alike low h;
        none = difference-zero a (moved row a) alike;
      })
