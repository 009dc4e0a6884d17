-- The made formula (document 01, "Made formula"). Auxiliaries are variables; e stands for the variable's number, and 2 · e for its literal.
-- Assumes nothing.
use Rattle.std.specs.Prelude.{ℕ, ◌+◌, ◌-◌, ◌*◌, Bool, true, ◌&&◌, List, [], ◌∷◌, ◌++◌, length}
use Rattle.std.specs.Bool.{beq}
use Rattle.packed.specs.Order.{value_of}
use Rattle.store.specs.Literals.{opposite_of}
use Rattle.lexleader.specs.Models.{literal_value}
use Rattle.lexleader.specs.Rows.{Pair, pairs_of}

-- document 01's table, j = 1: clauses r1 to r6 of the auxiliary e1, for the pair q = (x1, y1) and the next pair p = (x2, y2)
abbrev pub first_six : ℕ → Pair → Pair → List (List ℕ)
first_six e q p =
    (opposite_of q.x ∷ q.y ∷ [])
    ∷ (opposite_of (2 * e) ∷ opposite_of q.x ∷ q.y ∷ [])
    ∷ (opposite_of (2 * e) ∷ q.x ∷ opposite_of q.y ∷ [])
    ∷ (2 * e ∷ q.x ∷ q.y ∷ [])
    ∷ (2 * e ∷ opposite_of q.x ∷ opposite_of q.y ∷ [])
    ∷ (opposite_of (2 * e) ∷ opposite_of p.x ∷ p.y ∷ [])
    ∷ []

-- the table, j of 2 or more: those of the auxiliary ej, where d is e(j-1), for the pair q = (xj, yj) and the next pair p
abbrev pub later_six : ℕ → ℕ → Pair → Pair → List (List ℕ)
later_six e d q p =
    (opposite_of (2 * e) ∷ 2 * d ∷ [])
    ∷ (opposite_of (2 * e) ∷ opposite_of q.x ∷ q.y ∷ [])
    ∷ (opposite_of (2 * e) ∷ q.x ∷ opposite_of q.y ∷ [])
    ∷ (2 * e ∷ opposite_of (2 * d) ∷ q.x ∷ q.y ∷ [])
    ∷ (2 * e ∷ opposite_of (2 * d) ∷ opposite_of q.x ∷ opposite_of q.y ∷ [])
    ∷ (opposite_of (2 * e) ∷ opposite_of p.x ∷ p.y ∷ [])
    ∷ []

-- the clauses of the auxiliaries after d, the next of which is for the pair q
unfoldable pub later_clauses : ℕ → Pair → List Pair → List (List ℕ)
later_clauses d q [] = []
later_clauses d q (p ∷ pairs) = later_six (d + 1) d q p ++ later_clauses (d + 1) p pairs

-- the clauses of a list of pairs, whose first auxiliary is e. "A row with k = 1 adds the single
-- clause -x1 y1 and no auxiliary" (document 02, CR 6).
unfoldable pub pair_clauses : ℕ → List Pair → List (List ℕ)
pair_clauses e [] = []
pair_clauses e (q ∷ []) = (opposite_of q.x ∷ q.y ∷ []) ∷ []
pair_clauses e (q ∷ p ∷ pairs) = first_six e q p ++ later_clauses e p pairs

unfoldable pub row_clauses : ℕ → List ℕ → List (List ℕ)
row_clauses e row = pair_clauses e (pairs_of row)

-- "k-1 auxiliaries"
unfoldable pub auxiliaries : List ℕ → ℕ
auxiliaries row = length (pairs_of row) - 1

-- the rows' clauses, "numbered on from the last number in use": e is the first auxiliary of the first row
unfoldable pub rows_clauses : ℕ → List (List ℕ) → List (List ℕ)
rows_clauses e [] = []
rows_clauses e (row ∷ rows) = row_clauses e row ++ rows_clauses (e + auxiliaries row) rows

unfoldable pub all_auxiliaries : List (List ℕ) → ℕ
all_auxiliaries [] = 0
all_auxiliaries (row ∷ rows) = auxiliaries row + all_auxiliaries rows

-- "The first m clauses are the plain ones, then each row's in order of acceptance": over n variables, a formula and rows
unfoldable pub made : ℕ → List (List ℕ) → List (List ℕ) → List (List ℕ)
made n formula rows = formula ++ rows_clauses (n + 1) rows

-- N, the variables of the made formula
unfoldable pub made_variables : ℕ → List (List ℕ) → ℕ
made_variables n rows = n + all_auxiliaries rows

-- "ej true exactly when A agrees with A moved by p on x1 .. xj": x and its image have the same value
unfoldable pub agrees : (ℕ → Bool) → Pair → Bool
agrees v q = beq (literal_value v q.x) (literal_value v q.y)

-- the values of the auxiliaries of a list of pairs, of which the last has none; `before` says whether all pairs before agree
unfoldable pub settings_after : (ℕ → Bool) → Bool → List Pair → List Bool
settings_after v before [] = []
settings_after v before (q ∷ []) = []
settings_after v before (q ∷ p ∷ pairs) = (before && agrees v q) ∷ settings_after v (before && agrees v q) (p ∷ pairs)

unfoldable pub row_settings : List ℕ → List Bool → List Bool
row_settings row a = settings_after (value_of a) true (pairs_of row)

unfoldable pub settings : List (List ℕ) → List Bool → List Bool
settings [] a = []
settings (row ∷ rows) a = row_settings row a ++ settings rows a

-- "Filling in writes an assignment of 1..N: A itself, and" the auxiliaries
unfoldable pub filled_in : List (List ℕ) → List Bool → List Bool
filled_in rows a = a ++ settings rows a
