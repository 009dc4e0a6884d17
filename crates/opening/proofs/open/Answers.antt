-- `opening::open` meets its contract: the answer is that of the problem line, then of the scan, then of the room, and only then is anything
-- written. Assumes nothing.
use Rattle.std.proofs.Common.{◌≡◌, ℕ, Result, Ok, [], length, sym, ◌∙◌, arith}
use Rattle.std.proofs.lemmas.Result.{err_from_is_err_and}
use Rattle.store.specs.Stores.{plain_of}
use Rattle.store.specs.declared.refusal.Refusal.{Refusal}
use Rattle.opening.specs.Problem.{problem_of}
use Rattle.opening.specs.Opening.{opened_if, opened_by}
use Rattle.opening.proofs.ProblemLaws.{line-limits}
use Rattle.opening.proofs.OpeningLaws.{opened-refused, body-past, opened-scan, short-literals, short-ends, short-keys, long-enough}
use Rattle.opening.proofs.Theorem.{opened_store, opened-formula, opened-plain}
use Rattle.opening.proofs.open.Goals as goal
use Rattle.opening.proofs.open.Goals.{In_ok-problem, After-scan, Else-keys-m, After-fill}

pub returns-in_err-problem-clause-answer : goal.returns-in_err-problem-clause-answer
returns-in_err-problem-clause-answer c =
    let p = err_from_is_err_and c.from_residual.result c.from_residual.ensures.1 in
    rw (p.1, p.2) (sym (opened-refused _ _ _ _ _ (sym c.problem_of.ensures ∙ c.in_err-problem.was)))

-- the problem line, and what the scan then decides
line : (c : In_ok-problem) → problem_of c.args.text.now ≡ Ok c.in_ok-problem.problem
line c = sym c.problem_of.ensures ∙ c.in_ok-problem.was

pub scan-requires : goal.scan-requires
scan-requires c = (line-limits _ _ (line c)).between

judged : (c : After-scan) (s : Result ℕ Refusal) → c.scan.result ≡ s → let a = c.args in
    let literals = length a.literals.now in
    let ends = length a.ends.now in
    let keys = length a.keys.now in
    opened_by a.text.now literals ends keys ≡ opened_if s c.in_ok-problem.problem.sizes literals ends keys
judged c s e = opened-scan _ _ (sym c.problem_of.ensures ∙ c.in_ok-problem.was) _ _ _ _ (sym c.scan.ensures ∙ e)

pub returns-in_err-count-clause-answer : goal.returns-in_err-count-clause-answer
returns-in_err-count-clause-answer c =
    let r = c.from_residual-in_err-count in
    let p = err_from_is_err_and r.result r.ensures.1 in
    rw (p.1, p.2) (sym (judged (goal.at.returns-in_err-count-clause-answer c).After-scan _ c.in_err-count.was))

pub returns-then-literals-count-clause-answer : goal.returns-then-literals-count-clause-answer
returns-then-literals-count-clause-answer c =
    let a = c.args in
    sym (judged (goal.at.returns-then-literals-count-clause-answer c).After-scan _ c.in_ok-count.was
    ∙ short-literals c.in_ok-problem.problem.sizes c.in_ok-count.count (length a.literals.now) (length a.ends.now) (length a.keys.now) (omega arith))

pub returns-then-ends-m-clause-answer : goal.returns-then-ends-m-clause-answer
returns-then-ends-m-clause-answer c =
    let a = c.args in
    sym (judged (goal.at.returns-then-ends-m-clause-answer c).After-scan _ c.in_ok-count.was
    ∙ short-ends c.in_ok-problem.problem.sizes c.in_ok-count.count (length a.literals.now) (length a.ends.now) (length a.keys.now) (omega arith) (omega arith))

pub returns-then-keys-m-clause-answer : goal.returns-then-keys-m-clause-answer
returns-then-keys-m-clause-answer c =
    let a = c.args in
    sym (judged (goal.at.returns-then-keys-m-clause-answer c).After-scan _ c.in_ok-count.was
    ∙ short-keys c.in_ok-problem.problem.sizes c.in_ok-count.count (length a.literals.now) (length a.ends.now) (length a.keys.now) (omega arith) (omega arith) (omega arith))

pub fill-requires : goal.fill-requires
fill-requires c =
    let l = line-limits _ _ (line (goal.at.fill-requires c).In_ok-problem) in
    (l.between, (_, _, _, l.variables, sym c.scan.ensures ∙ c.in_ok-count.was, omega arith, omega arith))

-- the text opens, and the slices as they are filled are those of the opened store
opens : (c : Else-keys-m) → let a = c.args in
    opened_by a.text.now (length a.literals.now) (length a.ends.now) (length a.keys.now) ≡ Ok c.in_ok-problem.problem.sizes
opens c =
    opened-scan _ _ (sym c.problem_of.ensures ∙ c.in_ok-problem.was) _ _ _ _ (sym c.scan.ensures ∙ c.in_ok-count.was)
    ∙ long-enough _ _ _ _ _ c.if-literals-count.false c.if-ends-m.false c.if-keys-m.false

filled : (c : After-fill) → let a = c.args in
    let s = opened_store a.text.now a.literals.now a.ends.now [] c.in_ok-problem.problem.sizes in
    (c.fill.new.literals ≡ s.literals) × (c.fill.new.ends ≡ s.ends)
filled c =
    let body = body-past _ _ (sym c.problem_of.ensures ∙ c.in_ok-problem.was) in
    (rw body c.fill.ensures.literals, rw body c.fill.ensures.ends)

pub invariant_of-clauses : goal.invariant_of-clauses
invariant_of-clauses c =
    let a = c.args in
    let f = filled (goal.at.invariant_of-clauses c).After-fill in
    record { formed = rw (f.0, f.1) (opened-formula a.text.now a.literals.now a.ends.now a.keys.now [] _ (opens (goal.at.invariant_of-clauses c).Else-keys-m)) }

pub returns : goal.returns
unfolding plain_of
returns c =
    let a = c.args in
    let f = filled (goal.at.returns c).After-fill in
    let o = opens (goal.at.returns c).Else-keys-m in
    record {
      answer = sym o;
      literals = f.0;
      ends = f.1;
      keys = c.write.ensures ∙ rw (f.0, f.1, opened-plain a.text.now a.literals.now a.ends.now a.keys.now [] _ o);
    }
