-- `session::bad_input` meets its contract: a new record is the closed one. Assumes nothing.
use Rattle.session.proofs.bad_input.Goals as goal

pub returns : goal.returns
returns c = rw c.new_record.ensures
