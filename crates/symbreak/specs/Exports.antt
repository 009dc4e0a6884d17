-- What the exports for C take and return: a record as four numbers, and structs of numbers that hold what the calls say. Assumes nothing.
use Rattle.std.specs.Prelude.{ℕ, cond, not, eqb}
use Rattle.store.specs.Refusals.{Said, done, refused}
use Rattle.store.specs.declared.record.Record.{Record}
use Rattle.measure.specs.declared.Figures.{Figures}
use Rattle.checking.specs.Checking.{Verdict, yes, false_at}
use Rattle.descent.specs.Words.{Outcome, settled_after, spent_after}
use Rattle.symbreak.specs.declared.CRecord.{CRecord}
use Rattle.symbreak.specs.declared.CAnswer.{CAnswer}
use Rattle.symbreak.specs.declared.CFigures.{CFigures}
use Rattle.symbreak.specs.declared.CDescent.{CDescent}
use Rattle.symbreak.specs.declared.CStored.{CStored}

-- the record that four numbers are: open is anything but 0
abbrev pub record_of : ℕ → ℕ → ℕ → ℕ → Record
record_of variables clauses rows flag = record { variables = variables; clauses = clauses; rows = rows; is_open = not (eqb flag 0) }

-- and back: open is 1
abbrev pub c_record : Record → CRecord
c_record r = record { variables = r.variables; clauses = r.clauses; rows = r.rows; is_open = cond r.is_open 1 0 }

-- an answer with one value: refusal 0 for none, and the value; or the refusal's number and its place
abbrev pub c_answer : Said ℕ → CAnswer
c_answer (done value) = record { refusal = 0; place = 0; value = value }
c_answer (refused number place) = record { refusal = number; place = place; value = 0 }

-- what a check finds: refusal 0, and the value 0 for yes or the number, from 1, of the first false clause; or the refusal's number and its place
abbrev pub c_checked : Said Verdict → CAnswer
c_checked (done yes) = record { refusal = 0; place = 0; value = 0 }
c_checked (done (false_at clause)) = record { refusal = 0; place = 0; value = clause }
c_checked (refused number place) = record { refusal = number; place = place; value = 0 }

-- the figures of a made formula: refusal 0, and the four of them; or the refusal's number and its place
abbrev pub c_figures : Said Figures → CFigures
c_figures (done f) = record { refusal = 0; place = 0; variables = f.variables; clauses = f.clauses; literals = f.literals; bytes = f.bytes }
c_figures (refused number place) = record { refusal = number; place = place; variables = 0; clauses = 0; literals = 0; bytes = 0 }

-- how a descent ends: refusal 0, whether it settled, and the count of moves; or the refusal's number and its place
abbrev pub c_descent : Said Outcome → CDescent
c_descent (done (settled_after moves)) = record { refusal = 0; place = 0; settled = 1; moves = moves }
c_descent (done (spent_after moves)) = record { refusal = 0; place = 0; settled = 0; moves = moves }
c_descent (refused number place) = record { refusal = number; place = place; settled = 0; moves = 0 }

-- an answer beside a record: refusal 0 for none, or the refusal's number and its place; and the record
abbrev pub c_stored_at : ℕ → ℕ → Record → CStored
c_stored_at number place r =
    record { refusal = number; place = place; variables = r.variables; clauses = r.clauses; rows = r.rows; is_open = cond r.is_open 1 0 }

abbrev pub c_stored : {Values : Type 0} → Said Values → Record → CStored
c_stored (done v) r = c_stored_at 0 0 r
c_stored (refused number place) r = c_stored_at number place r
