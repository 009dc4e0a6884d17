-- `permutation::list_names` meets its contract. The invariant: the names before `at` are listed and marked, and the line's first bad name is the
-- first from `at` on (`Listing`). Assumes nothing.
use Rattle.std.proofs.Common.{◌<◌, sym, ◌∙◌, arith}
use Rattle.dimacs.proofs.WordLaws.{piece_at, no_word}
use Rattle.store.specs.Numerals.{code_in}
use Rattle.permutation.specs.Lines.{is_name}
use Rattle.permutation.proofs.Walks.{Word, word_read, word-refused}
use Rattle.permutation.proofs.NameLaws.{name-literal, no_name, Passes, size-read, size-range, size_none, size-some}
use Rattle.permutation.proofs.Listing.{listing_none, listing-empty, listing-all, listing-outside, listing-twice, listing-room, listing-more}
use Rattle.permutation.proofs.list_names.Goals as goal
use Rattle.permutation.proofs.list_names.Goals.{In-Ok, After-name_of, In-Some, Else-marks-name}

pub loop-n-init : goal.loop-n-init
loop-n-init c = let pre = c.requires in listing_none _ _ _ _ pre.1 pre.2

pub returns-then-count-eq0 : goal.returns-then-count-eq0
returns-then-count-eq0 c =
    listing-empty c.loop-n.invariant (no_word _ _ _ c.next_word-place.ensures c.if-names-place.true) c.if-count-eq0.true

pub returns-then-names-place : goal.returns-then-names-place
returns-then-names-place c =
    listing-all c.loop-n.invariant (no_word _ _ _ c.next_word-place.ensures c.if-names-place.true) c.if-count-eq0.false

pub returns-in_default : goal.returns-in_default
returns-in_default c =
    let stray = word-refused _ _ _ c.next_word-place.ensures c.if-names-place.false _ (sym c.read.ensures ∙ c.in_default.is) in
    listing-outside c.loop-n.invariant stray.words (no_name _ _ stray.code)

-- the number that `read` found, and what `name_of` says of it
found : (c : In-Ok) → Word c.args.names.now c.loop-n.at c.next_word-place.result c.in-Ok.number c.in-Ok.next.at
found c = word_read _ _ _ c.next_word-place.ensures _ _ (sym c.read.ensures ∙ c.in-Ok.is)

pub returns-in_default-name_of : goal.returns-in_default-name_of
returns-in_default-name_of c =
    let w = found (goal.at.returns-in_default-name_of c).In-Ok in
    listing-outside c.loop-n.invariant w.words (size_none (is_name _) _ _ (size-read (is_name _) _ w c.name_of.ensures) c.in_default-name_of.is)

named : (c : In-Some) → Passes (is_name c.args.n) (code_in (piece_at c.args.names.now c.next_word-place.result)) c.in-Some.name
named c =
    let w = word_read _ _ _ c.next_word-place.ensures _ _ (sym c.read.ensures ∙ c.in-Ok.is) in
    size-some (is_name _) _ _ (size-read (is_name _) _ w c.name_of.ensures) _ c.in-Some.is

small : (c : In-Some) → c.in-Some.name < 513
small c = omega (arith, size-range _ _ (name-literal _) (named c), c.requires.0)

pub bounds-marks-name : goal.bounds-marks-name
bounds-marks-name c = small (goal.at.bounds-marks-name c).In-Some

pub returns-then-marks-name : goal.returns-then-marks-name
returns-then-marks-name c =
    let place = goal.at.returns-then-marks-name c in
    listing-twice c.loop-n.invariant (found place.In-Ok).words _ (named place.In-Some) c.if-marks-name.true

pub bounds-marks-name-in-loop-n : goal.bounds-marks-name-in-loop-n
bounds-marks-name-in-loop-n c = small (goal.at.bounds-marks-name-in-loop-n c).In-Some

pub overflow_cast-order : goal.overflow_cast-order
overflow_cast-order c = omega (arith, small (goal.at.overflow_cast-order c).In-Some)

-- there is room for a name that is new
room : (c : Else-marks-name) → c.loop-n.count < c.args.n
room c = listing-room c.loop-n.invariant (named (goal.at.overflow_cast-order c).In-Some) c.if-marks-name.false

pub offset_bounds-order-count : goal.offset_bounds-order-count
offset_bounds-order-count c = omega (arith, room (goal.at.offset_bounds-order-count c).Else-marks-name)

pub bounds-order-count : goal.bounds-order-count
bounds-order-count c = omega (arith, room (goal.at.bounds-order-count c).Else-marks-name)

pub loop-n-smaller : goal.loop-n-smaller
loop-n-smaller c = omega (arith, (found (goal.at.loop-n-smaller c).In-Ok).forward)

pub loop-n-preserved : goal.loop-n-preserved
loop-n-preserved c =
    let place = goal.at.loop-n-preserved c in
    listing-more c.loop-n.invariant (found place.In-Ok) _ (named place.In-Some) c.if-marks-name.false (small place.In-Some)
