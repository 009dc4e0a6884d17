-- What the calls that change the record alone answer, by the record that they leave. Assumes nothing.
use Rattle.std.specs.Prelude.{Result, Ok, Err}
use Rattle.store.specs.declared.record.Record.{Record}
use Rattle.store.specs.declared.refusal.Refusal.{Refusal}
use Rattle.calls.specs.declared.Stored.{Stored}

-- the record stays where the call refuses
abbrev pub stored_by : Result Record Refusal → Record → Stored (Unit {0})
stored_by (Ok after) counts = record { answer = Ok tt; counts = after }
stored_by (Err r) counts = record { answer = Err r; counts = counts }
