-- `render::clause_length` meets its contract. The invariant: n bytes for the line's end and the literals before the next. Assumes nothing.
use Rattle.std.proofs.Common.{map}
use Rattle.render.proofs.LineLaws.{Measured}
use Rattle.render.proofs.clause_length.Given as goal

abbrev pub invariant-loop-code : goal.invariant-loop-code
invariant-loop-code g l = Measured (map g.C.Coded.code l.clause) l.code-index l.length
