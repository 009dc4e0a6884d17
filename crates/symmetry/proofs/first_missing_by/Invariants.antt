-- `symmetry::first_missing_by` meets its contract. The invariant: the answer is that for the clauses from clause c on, and no mark is above c. Assumes nothing.
use mathlib.Core.Path.{◌≡◌}
use mathlib.Core.List.{List}
use Prim.Native.Nat.{ℕ, ◌+◌}
use lib.ListN.{drop}
use Rattle.store.specs.Held.{formula_of}
use Rattle.keys.specs.Marks.{Below}
use Rattle.symmetry.specs.Symmetry.{missing_from}
use Rattle.symmetry.specs.Fitting.{FitsRow, ImagePlaces}
use Rattle.symmetry.proofs.first_missing_by.Given as goal

abbrev pub invariant-loop-c : goal.invariant-loop-c
invariant-loop-c l =
    let formula = formula_of l.clauses in
    record {
      rest : (row : List ℕ) → ImagePlaces row l.places → FitsRow row formula
          → missing_from row formula 1 formula ≡ missing_from row formula (l.c + 1) (drop l.c formula);
      below : Below (l.c + 1) l.marks;
    }
