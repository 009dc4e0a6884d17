-- `render::put_clause` meets its contract. The invariant: the line from the next literal on is still to be written, from `next` on. Assumes nothing.
use Rattle.std.proofs.Common.{map}
use Rattle.render.proofs.LineLaws.{Line}
use Rattle.render.proofs.put_clause.Given as goal

abbrev pub invariant-loop-code : goal.invariant-loop-code
invariant-loop-code g l = Line (map g.C.Coded.code l.clause) l.at l.initial.out l.code-index l.next l.out
