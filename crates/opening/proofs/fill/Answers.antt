-- `opening::fill` meets its contract. Each turn reads a number and stores it, so that what is still to be stored, stored from where the locals
-- say, stays the answer; and the scan of what is left is still done, which bounds each store. Assumes nothing.
use Rattle.std.proofs.Common.{List, refl, sym, ap, ◌∙◌, arith}
use lib.ListN.{length-set}
use lib.Seq.{sets}
use Rattle.dimacs.specs.Words.{Piece}
use Rattle.comments.specs.Comments.{words_past}
use Rattle.opening.specs.Clauses.{literals_in, ends_from}
use Rattle.opening.proofs.NextNumber.{NextNumber, body-found, body-missing}
use Rattle.opening.proofs.DoneLaws.{counted, ZeroTurn, zero_turn, LiteralTurn, literal-turn, none_left}
use Rattle.lists.proofs.Writing.{stored, sets-front}
use Rattle.opening.proofs.fill.Goals as goal
use Rattle.opening.proofs.fill.Goals.{Then-number-eq0, Else-number-eq0}

pub loop-number-init : goal.loop-number-init
loop-number-init c =
    let n = c.requires.1.0 in
    let m = c.requires.1.1 in
    let words = words_past c.args.text.now c.args.start in
    let fits = c.requires.1 in
    let all = counted _ n m fits.2 words 0 0 fits.4 in
    record {
      judged = record { n = n; m = m; total = fits.2; small = fits.3; literals_room = fits.5; ends-room = fits.6 };
      between = c.requires.0;
      used-within = omega arith;
      literals-length = refl;
      ends-length = refl;
      done = fits.4;
      codes = sets-front c.args.literals.now (literals_in words) (omega (arith, all.literals, fits.5));
      clauses = sets-front c.args.ends.now (ends_from 0 words) (omega (arith, all.ends, fits.6));
    }

pub returns-in_default : goal.returns-in_default
unfolding literals_in ends_from
returns-in_default c =
    let l = c.loop-number in
    let refused = sym c.read.ensures ∙ c.in_default.is in
    let end = none_left _ _ _ _ _ _ _ l.invariant.done (body-missing _ _ _ c.next_word-word.ensures _ refused) in
    record {
      literals = sym (l.invariant.codes ∙ ap (λ (ws : List Piece). sets l.literals l.used (literals_in ws)) end);
      ends = sym (l.invariant.clauses ∙ ap (λ (ws : List Piece). sets l.ends l.closed (ends_from l.used ws)) end);
    }

-- a 0 was read
found-zero : (c : Then-number-eq0) → NextNumber c.args.text.now (words_past c.args.text.now) c.loop-number.at c.next_word-word.result c.in-Ok.number c.in-Ok.next.at
found-zero c = body-found _ _ _ c.next_word-word.ensures _ _ (sym c.read.ensures ∙ c.in-Ok.is)

zero-here : (c : Then-number-eq0) → ZeroTurn _ _ _ _ _ _ _ c.loop-number.invariant.done _ _ (found-zero c).words _ (found-zero c).number
zero-here c = zero_turn _ _ _ _ _ _ _ _ _ _ _ _ _ c.if-number-eq0.true

pub offset_bounds-ends-closed : goal.offset_bounds-ends-closed
offset_bounds-ends-closed c = omega (arith, zero-here c)

pub bounds-ends-closed : goal.bounds-ends-closed
bounds-ends-closed c = omega (arith, zero-here c)

pub overflow_add-closed : goal.overflow_add-closed
overflow_add-closed c = omega (arith, zero-here c)

pub loop-number-smaller-then-number-eq0 : goal.loop-number-smaller-then-number-eq0
loop-number-smaller-then-number-eq0 c = omega (arith, found-zero c)

pub loop-number-preserved-then-number-eq0 : goal.loop-number-preserved-then-number-eq0
loop-number-preserved-then-number-eq0 c =
    let l = c.loop-number in
    let t = zero-here c in
    record {
      judged = l.invariant.judged;
      between = (found-zero c).between;
      used-within = l.invariant.used-within;
      literals-length = l.invariant.literals-length;
      ends-length = simp length-set l.invariant.ends-length;
      done = t.scanned;
      codes = l.invariant.codes ∙ ap (sets l.literals l.used) t.codes;
      clauses = stored l.ends l.closed l.invariant.clauses t.clauses refl;
    }

-- a literal was read
found-literal : (c : Else-number-eq0) → NextNumber c.args.text.now (words_past c.args.text.now) c.loop-number.at c.next_word-word.result c.in-Ok.number c.in-Ok.next.at
found-literal c = body-found _ _ _ c.next_word-word.ensures _ _ (sym c.read.ensures ∙ c.in-Ok.is)

literal-here : (c : Else-number-eq0) → LiteralTurn _ _ _ _ _ _ _ c.loop-number.invariant.done _ _ (found-literal c).words _ (found-literal c).number
literal-here c = literal-turn _ _ _ _ _ _ _ _ _ _ _ _ _ c.if-number-eq0.false

pub overflow_cast-number : goal.overflow_cast-number
overflow_cast-number c = omega (arith, literal-here (goal.at.overflow_cast-number c).Else-number-eq0)

pub code-requires : goal.code-requires
code-requires c = omega (arith, literal-here (goal.at.code-requires c).Else-number-eq0)

pub bounds-literals-used : goal.bounds-literals-used
bounds-literals-used c = omega (arith, literal-here (goal.at.bounds-literals-used c).Else-number-eq0)

pub loop-number-smaller : goal.loop-number-smaller
loop-number-smaller c = omega (arith, found-literal (goal.at.loop-number-smaller c).Else-number-eq0)

pub loop-number-preserved : goal.loop-number-preserved
loop-number-preserved c =
    let l = c.loop-number in
    let here = (goal.at.loop-number-preserved c).Else-number-eq0 in
    let t = literal-here here in
    record {
      judged = l.invariant.judged;
      between = (found-literal here).between;
      used-within = omega (arith, t);
      literals-length = simp length-set l.invariant.literals-length;
      ends-length = l.invariant.ends-length;
      done = t.scanned;
      codes = stored l.literals l.used l.invariant.codes t.codes (sym c.code.ensures);
      clauses = l.invariant.clauses ∙ ap (sets l.ends l.closed) t.clauses;
    }
