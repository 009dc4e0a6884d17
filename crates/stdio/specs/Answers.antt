-- What an answer of the system means. A read (`read` of std) fails or tells how many bytes it put at the start of the buffer, 0 at the end of the input; a
-- write (`write_all` of std) fails or took all. Assumes nothing.
use Rattle.std.specs.Prelude.{ℕ, zero, suc, ◌+◌, Result, Ok, Err}
use Rattle.std.specs.declared.ops.ControlFlow.{ControlFlow}
use Rattle.std.specs.declared.ops.ControlFlow.TheVariants.{Continue, Break}

-- how reading goes on where so many bytes were read before: on with so many in all, or over with so many
abbrev pub read_on : {E : Type 0} → ℕ → Result ℕ E → Result (ControlFlow ℕ ℕ) E
read_on done (Ok zero) = Ok (Break done)
read_on done (Ok (suc k)) = Ok (Continue (done + suc k))
read_on done (Err e) = Err e

-- what handing over so many bytes comes to
abbrev pub write_answer : {E : Type 0} → ℕ → Result Unit E → Result ℕ E
write_answer count (Ok all) = Ok count
write_answer count (Err e) = Err e
