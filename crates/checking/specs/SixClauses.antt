-- The six clauses of an auxiliary at once: what the code asks of six values instead of building the clauses (`six-say`, proofs/SixLaws.antt, says that it is the
-- same). No promise rests on these definitions. Assumes nothing.
use Rattle.std.specs.Prelude.{◌≡◌, ℕ, ◌-◌, ◌*◌, Bool, true, not, ◌&&◌, ◌||◌, List, eqb}
use Rattle.lists.specs.Tests.{all_of}
use Rattle.store.specs.Literals.{is_literal}
use Rattle.lexleader.specs.Models.{literal_value}
use Rattle.lexleader.specs.Rows.{Pair}
use Rattle.lexleader.specs.Made.{agrees}
use Rattle.lexleader.specs.Clause.{pair_at}
use Rattle.lexleader.specs.declared.places.Place.{Place}

-- y is true where x is
unfoldable pub ordered : (ℕ → Bool) → Pair → Bool
ordered v q = not (literal_value v q.x) || literal_value v q.y

-- the auxiliary at a place has to be true: the one before it is, unless it is the row's first, and the pair at the place agrees
unfoldable pub auxiliary_due : (ℕ → Bool) → List ℕ → Place → Bool
auxiliary_due v row p = (eqb p.j 1 || literal_value v (2 * (p.auxiliary - 1))) && agrees v (pair_at row p.index)

-- all literals of clauses are of the variables 1..n
abbrev pub LiteralsWithin : ℕ → List (List ℕ) → Type 0
LiteralsWithin n clauses = all_of (all_of (is_literal n)) clauses ≡ true
