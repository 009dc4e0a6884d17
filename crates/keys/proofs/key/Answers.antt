-- `keys::key` meets its contract. Assumes nothing.
use Rattle.std.proofs.Common.{◌≡◌, ℕ, ◌≤◌, List, length, sym, ap, ◌∙◌, arith}
use lib.ListN.{length-map}
use lib.Seq.{take_all}
use Rattle.lists.proofs.Members.{all-at, map_at}
use Rattle.store.specs.Literals.{is_literal}
use Rattle.store.specs.Stores.{max_variables}
use Rattle.keys.specs.Marks.{sent_to, sent_clause}
use Rattle.keys.proofs.KeyLaws.{FromEnd, from_end, Hand, key-none, key-again, key_more}
use Rattle.keys.proofs.MarkLaws.{came, is-new, marked-none, marked-again, marked_more, below_more, below_next}
use Rattle.keys.proofs.key.Goals as goal
use Rattle.keys.proofs.key.Goals.{After-sent-place}

pub loop-code-init : goal.loop-code-init
loop-code-init c =
    let a = c.args in
    let sent : List ℕ = sent_clause a.places.now a.clause.now in
    let left : List ℕ = c.into_iter-code-iterator.result.iter.rest.now in
    let whole : left ≡ a.clause.now = cc (c.into_iter-code-iterator.ensures.into_iter_gives, c.rev-code-items.ensures.source, c.iter.ensures.rest) in
    let size : length left ≡ length a.clause.now = ap length whole in
    let end : length sent ≤ length left = omega (arith, length-map a.clause.now (sent_to a.places.now)) in
    record {
      front = whole ∙ sym (take_all (length left) a.clause.now (omega arith));
      key = sym (key-none a.table.now sent (length left) end);
      marked = marked-none a.mark sent a.marks.now (length left) end c.requires.2;
      below = below_next _ _ c.requires.2;
    }

-- the literal at hand is one of the clause's
pub sent-place-requires : goal.sent-place-requires
sent-place-requires c =
    let f = from_end c.args.clause.now _ _ _ c.loop-code.invariant.front c.in-Some.ensures.steps in
    (rw (c.from.ensures, f.is) (all-at (is_literal max_variables) c.args.clause.now 0 c.requires.0 _ f.inside), c.requires.1)

turn : (c : After-sent-place) → FromEnd c.args.clause.now c.loop-code.code-iterator.iter.rest.now c.next.new.self.iter.rest.now c.in-Some.code.now
turn c = from_end c.args.clause.now _ _ _ c.loop-code.invariant.front c.in-Some.ensures.steps

-- what the clause is sent to
abbrev sent : After-sent-place → List ℕ
sent c = sent_clause c.args.places.now c.args.clause.now

-- and so is the one that it is sent to
hand : (c : After-sent-place) → Hand (sent c) (length c.next.new.self.iter.rest.now) (length c.loop-code.code-iterator.iter.rest.now) (sent_to c.args.places.now c.from.result) c.sent-place.result
hand c =
    let f = turn c in
    record {
      next = f.next;
      inside = omega (arith, f.inside, length-map c.args.clause.now (sent_to c.args.places.now));
      is = ap (sent_to c.args.places.now) (c.from.ensures ∙ f.is) ∙ sym (map_at (sent_to c.args.places.now) c.args.clause.now _ 0 0 f.inside);
      low = omega arith;
      placed = omega (arith, c.sent-place.ensures.0);
    }

pub loop-code-preserved-then-marks-place : goal.loop-code-preserved-then-marks-place
loop-code-preserved-then-marks-place c =
    let at = (goal.at.loop-code-preserved-then-marks-place c).After-sent-place in
    let i = c.loop-code.invariant in
    let h = hand at in
    let new = is-new c.args.mark (sent at) c.loop-code.marks _ _ _ _ h i.marked c.if-marks-place.true in
    record {
      front = (turn at).front;
      key = key_more c.args.table.now (sent at) _ _ _ _ h new _ i.key;
      marked = marked_more c.args.mark (sent at) c.loop-code.marks _ _ _ _ h i.marked (omega (arith, c.sent-place.ensures.1, i.below.room));
      below = below_more c.args.mark c.loop-code.marks _ c.sent-place.ensures.1 i.below;
    }

pub loop-code-preserved : goal.loop-code-preserved
loop-code-preserved c =
    let at = (goal.at.loop-code-preserved c).After-sent-place in
    let i = c.loop-code.invariant in
    let h = hand at in
    let seen = came c.args.mark (sent at) c.loop-code.marks _ _ _ _ h i.marked c.if-marks-place.false in
    record {
      front = (turn at).front;
      key = i.key ∙ key-again c.args.table.now (sent at) _ _ _ _ h seen;
      marked = marked-again c.args.mark (sent at) c.loop-code.marks _ _ _ _ h i.marked seen;
      below = i.below;
    }

pub returns : goal.returns
returns c =
    let none = c.in-None.ensures.steps.0 in
    record { key = rw none at c.loop-code.invariant.key; marked = rw none at c.loop-code.invariant.marked; below = c.loop-code.invariant.below }
