-- `cursor::mark` meets its contract: where the cursor is in no row, any marks will do. Assumes nothing.
use mathlib.Core.Path.{sym, ap, ◌∙◌}
use native.Mathlib.Omega.{arith}
use Rattle.store.proofs.RowParts.{part-size}
use Rattle.cycles.specs.Marks.{marks_of}
use Rattle.cursor.proofs.mark.Goals as goal

pub leave_out-requires : goal.leave_out-requires
leave_out-requires c = c.requires.1 ∙ sym (part-size c.args.rows.formed _ (omega arith) _ c.row.ensures)

pub shape_of-marks : goal.shape_of-marks
shape_of-marks c = c.leave_out.auto.marks

pub returns-then-cursor-rows : goal.returns-then-cursor-rows
returns-then-cursor-rows c =
    record { room = shape_of-marks c ∙ c.requires.1; are = λ h. c.leave_out.ensures ∙ ap marks_of c.row.ensures }

pub returns-else-cursor-rows : goal.returns-else-cursor-rows
returns-else-cursor-rows c = record { room = c.requires.1; are = λ h. absurd (omega (arith, c.if-cursor-rows.false)) }
