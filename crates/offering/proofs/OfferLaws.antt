-- What an offer answers: one law for each way out, and what the row is that it checks. Assumes nothing.
use mathlib.Core.Path.{◌≡◌, ◌∙◌}
use mathlib.Core.Bool.{Bool, true, false}
use mathlib.Core.List.{List, ◌++◌}
use Prim.Native.Nat.{ℕ, ◌≤◌, ◌<◌}
use native.Mathlib.Omega.{arith}
use borrow.Author.Tests.{ne_eqb, le-leb, lt-leb}
use lib.ListN.{length, take, drop, length-append}
use lib.Seq.{take_at, length-take-le}
use Rattle.std.proofs.Common.{Option, Some, None, Ok, Err, sym, ap}
use Rattle.store.specs.Stores.{Store, plain_of}
use Rattle.store.specs.Identity.{moves_nothing}
use Rattle.store.specs.declared.refusal.Refusal.{Refusal}
use Rattle.permutation.specs.Stated.{stated_by}
use Rattle.permutation.proofs.RowLaws.{row-length}
use Rattle.symmetry.specs.Symmetry.{first_missing, number_or_none}
use Rattle.symmetry.proofs.Missing.{is_none, is_some}
use Rattle.offering.specs.Offering.{row_for, images_needed, if_room, if_symmetry, if_moving, offered_by}

-- two lines that state a permutation for a store, and the row's first n entries, which are what they state
pub record RowRead (s : Store) (names values row : List ℕ) : Type 0 where
  pub stated : stated_by s.counts.variables names values ≡ Ok tt
  pub part : take s.counts.variables row ≡ row_for s names values
  pub long : s.counts.variables ≤ length row
  pub size : length (take s.counts.variables row) ≡ s.counts.variables

pub row_read : (s : Store) (names values old row : List ℕ) → stated_by s.counts.variables names values ≡ Ok tt
    → row ≡ row_for s names values ++ drop s.counts.variables old → s.counts.variables ≤ length old → RowRead s names values row
row_read s names values old row stated filled room =
    let n = s.counts.variables in
    let size = row-length n names values in
    let long : n ≤ length row = rw filled (omega (arith, length-append (row_for s names values) (drop n old), size)) in
    record {
      stated = stated;
      part = rw filled (take_at (row_for s names values) (drop n old) n size);
      long = long;
      size = length-take-le n row long;
    }

pub not-stated : (s : Store) (names values : List ℕ) (r : Refusal) → stated_by s.counts.variables names values ≡ Err r → offered_by s names values ≡ Err r
unfolding offered_by
not-stated s names values r e = rw e

-- what the tests of the row say
module _ {s : Store} {names values row : List ℕ} (read : RowRead s names values row) (idle : Bool) (idle-is : idle ≡ moves_nothing (take s.counts.variables row)) where
  moves-is : idle ≡ moves_nothing (row_for s names values)
  moves-is = idle-is ∙ ap moves_nothing read.part

  pub not-moving : idle ≡ true → offered_by s names values ≡ Err Refusal.MovesNothing
  unfolding offered_by if_moving
  not-moving e = rw (read.stated, sym moves-is ∙ e)

  module _ (moving : idle ≡ false) (missing : Option ℕ) (is : missing ≡ number_or_none (first_missing (take s.counts.variables row) (plain_of s))) where
    missing-is : missing ≡ number_or_none (first_missing (row_for s names values) (plain_of s))
    missing-is = is ∙ ap (λ (r : List ℕ). number_or_none (first_missing r (plain_of s))) read.part

    by-symmetry : (k : ℕ) → first_missing (row_for s names values) (plain_of s) ≡ k → offered_by s names values ≡ if_symmetry k (if_room s)
    unfolding offered_by if_moving
    by-symmetry k e = rw (read.stated, sym moves-is ∙ moving, e)

    pub not-symmetric : (k : ℕ) → missing ≡ Some k → offered_by s names values ≡ Err (Refusal.NoSymmetry k)
    unfolding if_symmetry
    not-symmetric k e =
        let p = is_some _ _ (sym missing-is ∙ e) in
        by-symmetry k p.0 ∙ rw (ne_eqb k 0 (λ z. p.1 (p.0 ∙ z)))

    module _ (none : missing ≡ None) where
      by-room : offered_by s names values ≡ if_room s
      unfolding if_symmetry
      by-room = by-symmetry 0 (is_none _ (sym missing-is ∙ none))

      pub no_room : length s.images < images_needed s → offered_by s names values ≡ Err (Refusal.TooShort (images_needed s))
      unfolding if_room
      no_room k = by-room ∙ rw (lt-leb (images_needed s) (length s.images) k)

      pub held : images_needed s ≤ length s.images → offered_by s names values ≡ Ok tt
      unfolding if_room
      held k = by-room ∙ rw (le-leb (images_needed s) (length s.images) k)
