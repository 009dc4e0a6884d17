-- `program::begin` meets its contract: a session that ends ready has the whole text left, one that is refused its line. Assumes nothing.
use Rattle.store.specs.Stores.{lent, closed_record}
use Rattle.standing.specs.Keyed.{Keyed, with_keys}
use Rattle.standing.proofs.StandingLaws.{its-form}
use Rattle.session.proofs.Theorem.{store_of}
use Rattle.program.proofs.ProgramLaws.{begins-ready, begins-refused}
use Rattle.program.proofs.begin.Goals as goal
use Rattle.program.proofs.begin.Goals.{in-Ok, in-Err}

pub returns : goal.returns
returns c =
    let s : Keyed = with_keys (lent closed_record c.args.literals.now c.args.ends.now c.args.images.now) c.args.keys.now in
    let ends = c.run-ended.ensures.ends in
    record {
      output = elim c.match-ended.branch [
        | in-Ok w ↦ rw w.stage-is (begins-ready s _ c.args.input.now c.run-ended.result.answer ends w.in-Ok.is)
        | in-Err w ↦ rw w.stage-is (begins-refused s _ c.args.input.now c.run-ended.result.answer ends _ w.in-Err.is)
      ];
      store = store_of ends;
      stands = elim c.match-ended.branch [
        | in-Ok w ↦ rw w.stage-is (its-form _ (c.run-ended.ensures.formed w.in-Ok.is))
        | in-Err w ↦ rw w.stage-is tt
      ];
    }
