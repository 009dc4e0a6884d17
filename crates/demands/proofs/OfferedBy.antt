-- What an offer to a store of its own row says: one law for each way out. Assumes nothing.
use Rattle.std.proofs.Common.{Ok, Err}
use mathlib.Core.Path.{◌≡◌, ◌∙◌}
use mathlib.Core.Bool.{true, false}
use mathlib.Core.List.{List}
use Prim.Native.Nat.{ℕ, ◌≤◌, ◌<◌}
use borrow.Author.Tests.{eq-eqb, ne_eqb, le-leb, lt-leb}
use lib.ListN.{length}
use Rattle.store.specs.Stores.{Store, plain_of}
use Rattle.store.specs.Identity.{moves_nothing}
use Rattle.store.specs.declared.refusal.Refusal.{Refusal}
use Rattle.permutation.specs.Stated.{stated_by}
use Rattle.symmetry.specs.Symmetry.{first_missing}
use Rattle.offering.specs.Offering.{row_for, images_needed, if_room, if_symmetry, if_moving, offered_by}

module _ (s : Store) (names values : List ℕ) where
  pub not-stated : (r : Refusal) → stated_by s.counts.variables names values ≡ Err r → offered_by s names values ≡ Err r
  unfolding offered_by
  not-stated r e = rw e

  module _ (stated : stated_by s.counts.variables names values ≡ Ok tt) where
    pub not-moving : moves_nothing (row_for s names values) ≡ true → offered_by s names values ≡ Err Refusal.MovesNothing
    unfolding offered_by if_moving
    not-moving e = rw (stated, e)

    module _ (moving : moves_nothing (row_for s names values) ≡ false) (missing : ℕ) (is : missing ≡ first_missing (row_for s names values) (plain_of s)) where
      by-symmetry : offered_by s names values ≡ if_symmetry missing (if_room s)
      unfolding offered_by if_moving
      by-symmetry = rw (stated, moving, is)

      pub not-symmetric : (missing ≡ 0 → ⊥) → offered_by s names values ≡ Err (Refusal.NoSymmetry missing)
      unfolding if_symmetry
      not-symmetric h = by-symmetry ∙ rw (ne_eqb missing 0 h)

      by-room : missing ≡ 0 → offered_by s names values ≡ if_room s
      unfolding if_symmetry
      by-room h = by-symmetry ∙ rw (eq-eqb missing 0 h)

      pub no_room : missing ≡ 0 → length s.images < images_needed s → offered_by s names values ≡ Err (Refusal.TooShort (images_needed s))
      unfolding if_room
      no_room h k = by-room h ∙ rw (lt-leb (images_needed s) (length s.images) k)

      pub held : missing ≡ 0 → images_needed s ≤ length s.images → offered_by s names values ≡ Ok tt
      unfolding if_room
      held h k = by-room h ∙ rw (le-leb (images_needed s) (length s.images) k)
