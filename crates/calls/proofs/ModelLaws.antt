-- Filling in: what the call says and leaves where the words are written. Assumes nothing.
use Rattle.std.specs.Prelude.{Ok}
use mathlib.Core.Path.{◌≡◌, refl, ap, ◌∙◌}
use mathlib.Core.Bool.{true}
use mathlib.Core.List.{List, ◌++◌}
use Prim.Native.Nat.{ℕ, ◌≤◌}
use borrow.Author.Tests.{le-leb}
use lib.ListN.{length, drop}
use Rattle.packed.specs.Words.{bits_of, word_count, words_of, is_assignment}
use Rattle.packed.proofs.Form.{form-count}
use Rattle.packed.proofs.Trips.{words-form}
use Rattle.store.specs.Refusals.{done}
use Rattle.store.specs.Stores.{Store, held_rows}
use Rattle.standing.specs.Keyed.{Keyed, standing_of}
use Rattle.standing.proofs.StandingLaws.{admitted-is, stands}
use Rattle.lexleader.specs.Made.{filled_in}
use Rattle.lexleader.specs.Store.{variables_of}
use Rattle.filling.specs.Written.{filled_words}
use Rattle.filling.proofs.Runs.{length-filled}
use Rattle.calls.specs.Calls.{fill_says, fill_leaves}

module _ (s : Keyed) {t : Store} (stood : Ok t ≡ standing_of s) (a out : List ℕ) (form : is_assignment t.counts.variables a ≡ true) where
  filled-length : length (filled_words t.counts.variables (held_rows t) a) ≡ word_count (variables_of t)
  unfolding filled_words variables_of
  filled-length =
      let bits = filled_in (held_rows t) (bits_of t.counts.variables a) in
      form-count (length bits) (words_of bits) (words-form bits) ∙ ap word_count (length-filled t.counts.variables (held_rows t) a)

  pub fill_done : word_count (variables_of t) ≤ length out → (words : ℕ) (after : List ℕ) → words ≡ word_count (variables_of t)
      → after ≡ filled_words t.counts.variables (held_rows t) a ++ drop (word_count (variables_of t)) out
      → (done words ≡ fill_says s a (length out)) × (after ≡ fill_leaves s a out)
  unfolding fill_says fill_leaves
  fill_done h words after w e =
      rw (stands s stood, ← admitted-is s stood, form, le-leb (word_count (variables_of t)) (length out) h, w, filled-length) (refl, e)
