-- `symmetry::image_places` meets its contract. Assumes nothing.
use Rattle.std.proofs.Common.{◌≡◌, ℕ, ◌+◌, ◌-◌, ◌≤◌, ◌<◌, true, List, length, set, sym, ap, ◌∙◌, ⊎_elim, arith, get_or-set_same, get_or-set_other}
use Rattle.lists.proofs.Cases.{eq-or-ne}
use Rattle.store.specs.Literals.{is_literal}
use Rattle.store.specs.Stores.{max_variables}
use Rattle.store.proofs.FormLaws.{literal-low, literal-high, literal-within}
use Rattle.store.proofs.Formed.{row_of}
use Rattle.numbers.specs.Numbers.{number_count}
use Rattle.keys.specs.Marks.{Places, sent_to}
use Rattle.symmetry.specs.Symmetry.{image_of}
use Rattle.symmetry.proofs.ImageLaws.{image-good}
use Rattle.symmetry.proofs.image_places.Invariants.{Filled}
use Rattle.symmetry.proofs.image_places.Goals as goal
use Rattle.symmetry.proofs.image_places.Goals.{After-image, In-loop-code}

-- a place more
filled_more : (row table : List ℕ) (code : ℕ) → Filled row table code → length table ≡ number_count → 2 ≤ code → (place : ℕ) → place ≡ code - 2 → place < number_count
    → (to : ℕ) → to < number_count → to + 2 ≡ image_of row code → Filled row (set table place to) (code + 1)
filled_more row table code f long low place e h to small is = record { places = places; sends = sends }
  where
    room : place < length table
    room = omega arith

    places : Places (set table place to)
    places i l = ⊎_elim (λ q. rw (← q, get_or-set_same table place to 0 room) small) (λ n. rw (get_or-set_other table place i to 0 (λ q. n (sym q))) (f.places i l)) (eq-or-ne place i)

    sends : (x : ℕ) → is_literal (length row) x ≡ true → x < code + 1 → sent_to (set table place to) x ≡ image_of row x
    sends x g l = ⊎_elim here before (eq-or-ne x code)
      where
        here : x ≡ code → sent_to (set table place to) x ≡ image_of row x
        here q = rw (q, ← e, get_or-set_same table place to 0 room) is

        before : (x ≡ code → ⊥) → sent_to (set table place to) x ≡ image_of row x
        before n =
            let other : x - 2 ≡ place → ⊥ = λ q. n (omega (arith, literal-low _ x g)) in
            ap (λ (k : ℕ). k + 2) (get_or-set_other table place (x - 2) to 0 other) ∙ f.sends x g (omega arith)

widened : (n code : ℕ) → n ≤ max_variables → is_literal n code ≡ true → is_literal max_variables code ≡ true
widened n code h g = literal-within max_variables code (literal-low n code g) (omega (arith, literal-high n code g))

pub loop-code-init : goal.loop-code-init
loop-code-init c = record { places = c.requires.0; sends = λ x g h. absurd (omega (arith, literal-low _ x g)) }

-- the code at hand is a literal of the row's variables, and so is its image
pub image-requires : goal.image-requires
image-requires c = literal-within _ _ (omega arith) (omega arith)

pub place-requires : goal.place-requires
place-requires c =
    let literal = image-requires (goal.at.place-requires c).In-loop-code in
    rw c.image.ensures (widened _ _ c.args.row.formed.small (image-good _ c.args.row.images.now (row_of _ c.args.row.images.now c.args.row.formed.good) _ literal))

pub place-requires-in-loop-code : goal.place-requires-in-loop-code
place-requires-in-loop-code c = widened _ _ c.args.row.formed.small (image-requires (goal.at.place-requires-in-loop-code c).In-loop-code)

pub loop-code-preserved : goal.loop-code-preserved
loop-code-preserved c =
    let image = place-requires (goal.at.loop-code-preserved c).After-image in
    let to = c.place.ensures in
    let at = c.place-in-loop-code.ensures in
    let is : c.place.result + 2 ≡ image_of c.args.row.images.now c.loop-code.code = omega (arith, to.0, literal-low max_variables _ image, c.image.ensures) in
    filled_more c.args.row.images.now c.loop-code.places c.loop-code.code c.loop-code.invariant (omega (arith, c.requires.1)) (omega arith) _ at.0 at.1 _ to.1 is

pub returns : goal.returns
returns c =
    record {
      is-row = c.args.row.formed.good;
      sends = λ code g. c.loop-code.invariant.sends code g (omega (arith, literal-high _ code g));
      places = c.loop-code.invariant.places;
    }
