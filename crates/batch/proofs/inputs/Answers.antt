-- `batch::inputs` is safe: the length of an input ends within what was read. Assumes nothing.
use Rattle.std.proofs.Common.{◌≡◌, ℕ, ◌≤◌, List, length, Ok, sym, ◌∙◌, arith}
use Rattle.dimacs.specs.Words.{is_word_byte}
use Rattle.dimacs.specs.Numbers.{reading_at}
use Rattle.dimacs.specs.declared.Cursor.{Cursor}
use Rattle.dimacs.specs.declared.Number.{Number}
use Rattle.dimacs.proofs.Runs.{run-within}
use Rattle.dimacs.proofs.WordLaws.{read_found}
use Rattle.batch.proofs.inputs.Goals as goal

reached : (text : List ℕ) (at : ℕ) (size : Number) (past : Cursor) → reading_at text at ≡ Ok (size, past) → at ≤ length text → past.at ≤ length text
reached text at size past e h = omega (arith, (read_found text at size past e).past, run-within is_word_byte text at h)

pub overflow_add-from : goal.overflow_add-from
overflow_add-from c = omega (arith, reached _ _ _ _ (sym c.read.ensures ∙ c.in-Ok.is) c.loop-count.invariant)

pub overflow_add-to : goal.overflow_add-to
overflow_add-to c = omega (arith, reached _ _ _ _ (sym c.read.ensures ∙ c.in-Ok.is) c.loop-count.invariant)
