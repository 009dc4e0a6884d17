-- `lexleader::places::next_pair` meets its contract. The invariant: every variable from `from` up to i has a mark. Assumes nothing.
use mathlib.Core.Path.{◌≡◌}
use mathlib.Core.List.{List}
use Prim.Native.Nat.{ℕ}
use Rattle.cycles.specs.Marks.{marks_of}
use Rattle.lexleader.specs.Clause.{pairs_at}
use Rattle.lexleader.proofs.places.next_pair.Given as goal

abbrev pub invariant-loop-i : goal.invariant-loop-i
invariant-loop-i l = (row : List ℕ) → l.marks ≡ marks_of row → pairs_at l.from row ≡ pairs_at l.i row
