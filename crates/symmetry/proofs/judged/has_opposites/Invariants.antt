-- `symmetry::judged::has_opposites` meets its contract. The invariant: the answer is whether one of the literals left has an opposite with the mark. Assumes nothing.
use mathlib.Core.Path.{◌≡◌}
use lib.ListN.{drop}
use Rattle.lists.specs.Tests.{any_of, has}
use Rattle.store.specs.Literals.{opposite_of}
use Rattle.keys.specs.Marks.{sent_clause}
use Rattle.symmetry.specs.Judged.{has_opposites}
use Rattle.symmetry.proofs.judged.has_opposites.Given as goal

abbrev pub invariant-loop-code : goal.invariant-loop-code
invariant-loop-code l = let sent = sent_clause l.places l.clause in has_opposites sent ≡ any_of (λ code. has sent (opposite_of code)) (drop l.code-index sent)
