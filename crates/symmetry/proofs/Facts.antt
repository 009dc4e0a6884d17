-- What a well formed store gives for a row of its variables. Assumes nothing.
use mathlib.Core.Path.{◌≡◌}
use mathlib.Core.Bool.{true}
use mathlib.Core.List.{List}
use Prim.Native.Nat.{ℕ}
use lib.ListN.{length}
use Rattle.store.specs.Stores.{Store, plain_of, is_formed}
use Rattle.store.proofs.Formed.{formed}
use Rattle.store.proofs.Within.{literals-within}
use Rattle.symmetry.specs.Fitting.{FitsRow}

pub fits_row : (s : Store) (row : List ℕ) → is_formed s ≡ true → length row ≡ s.counts.variables → FitsRow row (plain_of s)
fits_row s row form e = rw e (literals-within s (formed s form))
