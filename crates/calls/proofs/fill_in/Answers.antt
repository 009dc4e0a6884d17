-- `calls::fill_in` meets its contract: 20, 21, 12 and 23 are tried, and then the words are written. Assumes nothing.
use mathlib.Core.Path.{refl, sym, ap, ◌∙◌}
use Prim.Native.Nat.{◌≤◌}
use native.Mathlib.Omega.{arith}
use lib.ListN.{length}
use borrow.Author.Tests.{lt-leb}
use Rattle.packed.specs.Words.{word_count}
use Rattle.store.specs.Held.{store_of}
use Rattle.store.specs.Stores.{held_rows}
use Rattle.store.proofs.Formed.{formed}
use Rattle.standing.proofs.StandingLaws.{admitted-is, stands}
use Rattle.lexleader.specs.Store.{variables_of}
use Rattle.lexleader.proofs.MadeLaws.{counted-variables}
use Rattle.lexleader.proofs.StoreBounds.{words-most}
use Rattle.calls.specs.Calls.{fill_says, fill_leaves}
use Rattle.calls.proofs.ModelLaws.{fill_done}
use Rattle.calls.proofs.fill_in.Goals as goal
use Rattle.calls.proofs.fill_in.Goals.{After-fill-arg-1, then-out-lt-MAX_WORDS+else-out-needed, else-out-lt-MAX_WORDS}

pub totals_of-total-requires : goal.totals_of-total-requires
totals_of-total-requires c = (formed _ c.in_ok-rows.field-0.formed).clauses-fit

pub returns-then-not-is_assignment : goal.returns-then-not-is_assignment
unfolding fill_says fill_leaves
returns-then-not-is_assignment c =
    rw (stands _ c.in_ok-rows.ensures, ← admitted-is _ c.in_ok-rows.ensures, ← c.is_assignment.ensures, c.if-not-is_assignment.true) (record { says = refl; leaves = refl })

pub returns-then-out-needed : goal.returns-then-out-needed
unfolding fill_says fill_leaves
returns-then-out-needed c =
    let s = store_of c.in_ok-rows.field-0 in
    rw (stands _ c.in_ok-rows.ensures, ← admitted-is _ c.in_ok-rows.ensures, ← c.is_assignment.ensures, c.if-not-is_assignment.false, ← counted-variables s c.totals_of-total.ensures, ← c.word_count-needed.ensures, lt-leb _ _ c.if-out-needed.true)
    (record { says = refl; leaves = refl })

-- the words that are needed have room, by either way
room : (c : After-fill-arg-1) → word_count (variables_of (store_of c.in_ok-rows.field-0)) ≤ length c.args.out.now
room c =
    let s = store_of c.in_ok-rows.field-0 in
    elim c.if-out-lt-MAX_WORDS.branch [
      | then-out-lt-MAX_WORDS+else-out-needed w ↦ omega (arith, w.word_count-needed.ensures ∙ ap word_count (counted-variables s w.totals_of-total.ensures))
      | else-out-lt-MAX_WORDS w ↦ omega (arith, words-most s c.in_ok-rows.field-0.formed)
    ]

pub fill-requires : goal.fill-requires
unfolding variables_of held_rows
fill-requires c = (sym c.is_assignment.ensures ∙ c.if-not-is_assignment.false, room c)

pub returns : goal.returns
unfolding variables_of held_rows
returns c =
    let form = sym c.is_assignment.ensures ∙ c.if-not-is_assignment.false in
    let all = fill_done _ c.in_ok-rows.ensures c.args.a.now c.args.out.now form (room (goal.at.returns c).After-fill-arg-1) _ _ c.fill.ensures.words c.fill.ensures.buffer in
    record { says = all.0; leaves = all.1 }
