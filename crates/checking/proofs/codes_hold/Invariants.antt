-- `checking::codes_hold` meets its contract. The invariant: the clause holds exactly when one of the literals that are left is true. Assumes nothing.
use Rattle.checking.proofs.ClauseLaws.{Tried}
use Rattle.checking.proofs.codes_hold.Given as goal

abbrev pub invariant-loop-code : goal.invariant-loop-code
invariant-loop-code l = Tried l.a l.clause l.code-index
