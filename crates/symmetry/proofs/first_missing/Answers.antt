-- `symmetry::first_missing` meets its contract: the places of the images and an index of the keys are made in scratch memory, and the clauses are gone through by them.
-- Assumes nothing.
use Rattle.std.proofs.Common.{length, refl, sym, ap, ◌∙◌, arith}
use Rattle.store.proofs.Formed.{row_of}
use Rattle.keys.proofs.MarkLaws.{unmarked}
use Rattle.symmetry.specs.Symmetry.{number_or_none}
use Rattle.symmetry.proofs.Theorem.{missing-among-all}
use Rattle.symmetry.proofs.first_missing.Goals as goal

pub image_places-requires : goal.image_places-requires
image_places-requires c = (λ i h. omega (arith, unmarked.low i), refl)

pub of_keys-requires : goal.of_keys-requires
of_keys-requires c = (refl, c.args.keyed.clauses.formed.clauses-fit)

pub first_missing_by-requires : goal.first_missing_by-requires
first_missing_by-requires c = (c.image_places.ensures.places, c.requires.1)

pub invariant_of-index : goal.invariant_of-index
invariant_of-index c = record { indexed = c.of_keys.ensures }

pub slice_bounds-index-end : goal.slice_bounds-index-end
slice_bounds-index-end c = sym c.of_keys.auto.heads

pub slice_bounds-index-end-2 : goal.slice_bounds-index-end-2
slice_bounds-index-end-2 c = sym c.of_keys.auto.nexts

pub returns : goal.returns
returns c =
    let row = c.args.row.images.now in
    c.first_missing_by.ensures row c.image_places.ensures c.requires.0
    ∙ ap number_or_none (missing-among-all (length row) row _ (row_of (length row) row c.args.row.formed.good) 1 _ c.requires.0)
