-- `program::page` meets its contract, stage by stage. Assumes nothing.
use mathlib.Core.Path.{sym, subst}
use Rattle.store.specs.Stores.{Store, stored}
use Rattle.program.specs.Program.{StageStands}
use Rattle.program.specs.declared.Stage.{Stage}
use Rattle.program.proofs.ProgramLaws.{at_stage, over-step}
use Rattle.program.proofs.page.Goals as goal

pub formed-requires : goal.formed-requires
formed-requires c = subst (λ (stage : Stage). StageStands stage (stored c.args.counts c.args.literals c.args.ends c.args.images)) c.in-Header.is c.requires.0

pub formed-requires-in-Clauses : goal.formed-requires-in-Clauses
formed-requires-in-Clauses c = (subst (λ (stage : Stage). StageStands stage (stored c.args.counts c.args.literals c.args.ends c.args.images)) c.in-Clauses.is c.requires.0).0

pub clauses-requires : goal.clauses-requires
clauses-requires c =
    let held = stored c.args.counts c.args.literals c.args.ends c.args.images in
    (subst (λ (s : Store). StageStands (Stage.Clauses c.in-Clauses.cursor) s) (sym c.formed-in-Clauses.ensures) (subst (λ (stage : Stage). StageStands stage held) c.in-Clauses.is c.requires.0), c.requires.1)

pub returns-in-Refused : goal.returns-in-Refused
returns-in-Refused c = at_stage c.in-Refused.is (c.refused.ensures (stored c.args.counts c.args.literals c.args.ends c.args.images))

pub returns-in-Header : goal.returns-in-Header
returns-in-Header c = at_stage c.in-Header.is (rw c.formed.ensures at c.header.ensures)

pub returns-in-Clauses : goal.returns-in-Clauses
returns-in-Clauses c = at_stage c.in-Clauses.is (rw c.formed-in-Clauses.ensures at c.clauses.ensures)

pub returns-in-Over : goal.returns-in-Over
returns-in-Over c = at_stage c.in-Over.is (over-step (stored c.args.counts c.args.literals c.args.ends c.args.images) c.args.out.now)
