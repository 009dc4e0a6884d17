-- The store: "what the caller lends at every call" (document 01, "Plain formula"), and the form that it must have ("Turned back by the store", 21). The keys of its
-- clauses (document 02, CR 5) are lent beside it, for those that look at them: `standing/specs/Keyed.antt`. Assumes nothing.
use Rattle.std.specs.Prelude.{◌≡◌, ℕ, zero, suc, ◌+◌, ◌-◌, ◌*◌, ◌≤◌, ◌<◌, Bool, true, false, cond, ◌&&◌, List, [], ◌∷◌, ◌++◌, map, length, get_or, take, drop, eqb, leb}
use Rattle.std.proofs.Math.Seq.{slice}
use Rattle.std.specs.Borrow.{Bor}
use Rattle.lists.specs.Tests.{all_of, distinct}
use Rattle.store.specs.Literals.{variable_of, is_literal}
use Rattle.store.specs.declared.record.Record.{Record}

-- "At most 512 variables, 4,096 clauses and 12,288 literals", and 64 rows
abbrev pub max_variables : ℕ
max_variables = 512

abbrev pub max_clauses : ℕ
max_clauses = 4096

abbrev pub max_literals : ℕ
max_literals = 12288

abbrev pub max_rows : ℕ
max_rows = 64

-- "A new store starts closed"
abbrev pub closed_record : Record
closed_record = record { variables = 0; clauses = 0; rows = 0; is_open = false }

-- "literals in order, each clause's end (the count of literals up to it), the images of the accepted permutations, one row of n each, and a
-- small record of n, m, the count of rows and whether it is open"
pub record Store : Type 0 where
  pub counts : Record
  pub literals : List ℕ
  pub ends : List ℕ
  pub images : List ℕ

abbrev pub lent : Record → List ℕ → List ℕ → List ℕ → Store
lent counts literals ends images = record { counts = counts; literals = literals; ends = ends; images = images }

-- the store that a record and three lent slices are
abbrev pub stored : Record → Bor (List ℕ) → Bor (List ℕ) → Bor (List ℕ) → Store
stored counts literals ends images = lent counts literals.now ends.now images.now

-- the ends never fall: each is at least the one before it, the first at least `from`
unfoldable pub rising : ℕ → List ℕ → Bool
rising from [] = true
rising from (e ∷ ends) = leb from e && rising e ends

-- the count of literals in use: the last clause's end, 0 where there is no clause
unfoldable pub literal_count : ℕ → List ℕ → ℕ
literal_count m ends = cond (eqb m 0) 0 (get_or ends (m - 1) 0)

-- the first k rows of n codes
unfoldable pub rows_of : ℕ → ℕ → List ℕ → List (List ℕ)
rows_of n zero images = []
rows_of n (suc k) images = take n images ∷ rows_of n k (drop n images)

-- row r of those, from 0, and that row with those after it
abbrev pub row_at : ℕ → ℕ → List ℕ → List ℕ
row_at n r images = take n (drop (r * n) images)

abbrev pub rows_from : ℕ → ℕ → List ℕ → ℕ → List (List ℕ)
rows_from n k images r = rows_of n (k - r) (drop (r * n) images)

-- the images with a row behind the first k, and what was past it
abbrev pub appended : ℕ → ℕ → List ℕ → List ℕ → List ℕ
appended n k row images = take (k * n) images ++ row ++ drop ((k + 1) * n) images

-- clause c, from 0: the literals from the end before its own up to its own
abbrev pub clause_at : List ℕ → List ℕ → ℕ → List ℕ
clause_at literals ends c = slice (literal_count c ends) (literal_count (c + 1) ends) literals

-- the literals cut into clauses, the first from `from` on, each up to its end
unfoldable pub cut : ℕ → List ℕ → List ℕ → List (List ℕ)
cut from literals [] = []
cut from literals (e ∷ ends) = slice from e literals ∷ cut e literals ends

-- m clauses: the literals cut at the first m ends
abbrev pub clauses_in : ℕ → List ℕ → List ℕ → List (List ℕ)
clauses_in m literals ends = cut 0 literals (take m ends)

-- the plain formula that a store holds, and its rows
unfoldable pub plain_of : Store → List (List ℕ)
plain_of s = clauses_in s.counts.clauses s.literals s.ends

unfoldable pub held_rows : Store → List (List ℕ)
held_rows s = rows_of s.counts.variables s.counts.rows s.images

-- "Rows hold signed values, and a row with a size that is 0, over n or repeated is badly formed" (document 02, CR 6): n literals, whose sizes, their variables,
-- are in 1..n and all different. A row of positive ones is a permutation of 1..n.
unfoldable pub is_row : ℕ → List ℕ → Bool
is_row n row = eqb (length row) n && all_of (is_literal n) row && distinct (map variable_of row)

-- the store with k rows, in these images
abbrev pub with_rows : Store → ℕ → List ℕ → Store
with_rows s k images =
    lent (record { variables = s.counts.variables; clauses = s.counts.clauses; rows = k; is_open = s.counts.is_open }) s.literals s.ends images

-- with a row more, behind those held; and without its newest row, whose entries stay
abbrev pub with_row : Store → List ℕ → Store
with_row s row = with_rows s (s.counts.rows + 1) (appended s.counts.variables s.counts.rows row s.images)

abbrev pub without_row : Store → Store
without_row s = with_rows s (s.counts.rows - 1) s.images

-- the opposite of 21, the keys apart: "a slice too short for the counts, ends that fall or pass the literals, a literal 0 or beyond n, a row that isn't a
-- permutation, a count over its limit"
unfoldable pub demands : Store → List Bool
demands s =
    let n = s.counts.variables in
    let m = s.counts.clauses in
    let rows = s.counts.rows in
    let used = literal_count m s.ends in
    leb n max_variables
    ∷ leb m max_clauses
    ∷ leb rows max_rows
    ∷ leb m (length s.ends)
    ∷ rising 0 (take m s.ends)
    ∷ leb used max_literals
    ∷ leb used (length s.literals)
    ∷ all_of (is_literal n) (take used s.literals)
    ∷ leb (rows * n) (length s.images)
    ∷ all_of (is_row n) (rows_of n rows s.images)
    ∷ []

unfoldable pub is_formed : Store → Bool
is_formed s = all_of (λ b. b) (demands s)

-- One row of a formed store.
pub record FormedRow (row : List ℕ) : Type 0 where
  pub small : length row ≤ max_variables
  pub good : is_row (length row) row ≡ true

-- The rows of a formed store, for functions that read no more of it.
pub record FormedRows (n k : ℕ) (images : List ℕ) : Type 0 where
  pub small : n ≤ max_variables
  pub rows_fit : k ≤ max_rows
  pub fits : k * n ≤ length images
  pub good : all_of (is_row n) (rows_of n k images) ≡ true

-- Its clauses, m of them: the ends never fall, and none passes the literals.
pub record FormedClauses (m : ℕ) (literals ends : List ℕ) : Type 0 where
  pub known : m ≤ length ends
  pub rise : (c : ℕ) → c < m → literal_count c ends ≤ literal_count (c + 1) ends
  pub within : (c : ℕ) → c < m → literal_count (c + 1) ends ≤ length literals
  pub literals-fit : (c : ℕ) → c < m → literal_count (c + 1) ends ≤ max_literals

-- And its clauses with their literals, each of one of the variables 1..n.
pub record FormedFormula (n m : ℕ) (literals ends : List ℕ) : Type 0 where
  pub clauses : FormedClauses m literals ends
  pub clauses-fit : m ≤ max_clauses
  pub literals-good : all_of (all_of (is_literal n)) (clauses_in m literals ends) ≡ true
