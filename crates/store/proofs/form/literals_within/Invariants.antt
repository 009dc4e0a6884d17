-- `store::form::literals_within` meets its contract. The invariant: all are literals of 1..n if those passed are and those after them. Assumes nothing.
use Rattle.std.proofs.Common.{◌≡◌, ◌&&◌, drop}
use Rattle.lists.specs.Tests.{all_of}
use Rattle.store.specs.Literals.{is_literal}
use Rattle.store.proofs.form.literals_within.Given as goal

abbrev pub invariant-loop-code : goal.invariant-loop-code
invariant-loop-code l = all_of (is_literal l.n) l.literals ≡ (l.all && all_of (is_literal l.n) (drop l.code-index l.literals))
