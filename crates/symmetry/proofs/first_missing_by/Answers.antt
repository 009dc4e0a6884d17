-- `symmetry::first_missing_by` meets its contract. Assumes nothing.
use Rattle.std.proofs.Common.{◌≡◌, ◌+◌, ◌<◌, sym, refl, ◌∙◌, arith}
use Rattle.store.proofs.Held.{formula-length, its-literals}
use Rattle.keys.proofs.MarkLaws.{unmarked}
use Rattle.symmetry.proofs.Missing.{missing-here, found-later, opposites-later, missing-end, none_of, some_of}
use Rattle.symmetry.proofs.Turn.{inside, its, its-sought, its-key, image-found, opposites-found}
use Rattle.symmetry.proofs.first_missing_by.Goals as goal
use Rattle.symmetry.proofs.first_missing_by.Goals.{else-not-has-via-then-not-has+else-not-has_opposites, else-not-has-via-else-not-has}

pub loop-c-init : goal.loop-c-init
loop-c-init c = record { rest = λ row places good. refl; below = unmarked }

pub key_at-key-requires : goal.key_at-key-requires
key_at-key-requires c = (omega arith, c.requires.0, c.loop-c.invariant.below)

pub invariant_of-sought : goal.invariant_of-sought
invariant_of-sought c =
    let a = c.args in
    let k = c.key_at-key.ensures in
    record { known = its-key a.index.keyed.clauses a.places.now c.loop-c.c (omega arith) c.requires.0 _ _ k.marked a.table.now _ k.key c.requires.1 }

pub has_opposites-requires : goal.has_opposites-requires
has_opposites-requires c =
    let k = c.key_at-key.ensures in
    (rw c.clause.ensures (its-literals c.args.index.keyed.clauses c.loop-c.c (omega arith)), c.requires.0, rw c.clause.ensures k.marked)

-- missing: neither its image was found nor a pair
pub returns-then-not-has_opposites : goal.returns-then-not-has_opposites
returns-then-not-has_opposites c row images good =
    let a = c.args in
    let s = a.index.keyed.clauses in
    let h : c.loop-c.c < s.count = omega arith in
    let image = c.has.ensures _ (its-sought s a.places.now c.loop-c.c h c.requires.0 _ _ c.key_at-key.ensures.marked)
    ∙ image-found s a.places.now c.loop-c.c h row images good in
    let opposites = rw c.clause.ensures at c.has_opposites.ensures ∙ opposites-found s a.places.now c.loop-c.c h row images good in
    sym (some_of _ c.loop-c.c (c.loop-c.invariant.rest row images good
    ∙ missing-here row _ (c.loop-c.c + 1) c.loop-c.c _ (its s a.places.now c.loop-c.c h) (inside s a.places.now c.loop-c.c h)
    (sym image ∙ c.if-not-has.true) (sym opposites ∙ c.if-not-has_opposites.true)))

-- else its image was found or a pair
pub loop-c-preserved : goal.loop-c-preserved
loop-c-preserved c =
    let a = c.args in
    let s = a.index.keyed.clauses in
    let h : c.loop-c.c < s.count = omega arith in
    let next : c.loop-c.c + 2 ≡ c.loop-c.c + 1 + 1 = omega arith in
    let below = rw next at c.key_at-key.ensures.below in
    let own = its s a.places.now c.loop-c.c h in
    let inner = inside s a.places.now c.loop-c.c h in
    let image = c.has.ensures _ (its-sought s a.places.now c.loop-c.c h c.requires.0 _ _ c.key_at-key.ensures.marked) in
    elim c.else-not-has.branch [
      | else-not-has-via-then-not-has+else-not-has_opposites w ↦ record {
        rest = λ row images good. c.loop-c.invariant.rest row images good
            ∙ opposites-later row _ _ c.loop-c.c _ own inner
            (sym (rw w.clause.ensures at w.has_opposites.ensures ∙ opposites-found s a.places.now c.loop-c.c h row images good) ∙ w.if-not-has_opposites.false);
        below = below;
      }
      | else-not-has-via-else-not-has w ↦ record {
        rest = λ row images good. c.loop-c.invariant.rest row images good
            ∙ found-later row _ _ c.loop-c.c _ own inner
            (sym (image ∙ image-found s a.places.now c.loop-c.c h row images good) ∙ w.if-not-has.false);
        below = below;
      }
    ]

pub returns : goal.returns
returns c row images good =
    sym (none_of _ (c.loop-c.invariant.rest row images good ∙ missing-end row _ _ c.loop-c.c (omega (arith, formula-length c.args.index.keyed.clauses))))
