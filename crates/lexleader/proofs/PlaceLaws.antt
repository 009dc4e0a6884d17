-- Places among a row's clauses: the clauses from one on are the clause at it and those from the next. Assumes nothing.
use mathlib.Core.Path.{◌≡◌, refl, sym, ap, ap₂, ◌∙◌}
use mathlib.Core.Bool.{Bool, true, false}
use mathlib.Core.Logic.{◌⊎◌, inl, inr}
use mathlib.Core.List.{List, [], ◌∷◌, ◌++◌}
use Prim.Native.Nat.{ℕ, zero, suc, ◌+◌, ◌-◌, ◌*◌, ◌/◌, ◌%◌, ◌≤◌, ◌<◌}
use native.Mathlib.Nat.{add-zero}
use native.Mathlib.Omega.{arith}
use borrow.Author.Tests.{ne_eqb}
use lib.Dec.{eqb}
use lib.ListN.{length, get_or, drop, length-append, length-drop, get_or-append}
use lib.Seq.{drop-append-le, drop-append-add, get_or-drop}
use Rattle.lists.proofs.Cases.{lt-or-le}
use Rattle.lists.proofs.Steps.{drop-step}
use Rattle.cycles.specs.Cycles.{left_out}
use Rattle.lexleader.specs.Rows.{Pair, pairs_of}
use Rattle.lexleader.specs.Made.{later_six, later_clauses, pair_clauses, row_clauses, auxiliaries}
use Rattle.lexleader.specs.Bounds.{max_made_variables}
use Rattle.lexleader.specs.Clause.{column_of, table_of, pair_at, pairs_at, NextPair}
use Rattle.lexleader.specs.Places.{clauses_on, clauses_at, six_at, auxiliary_after, past_last, PlaceStands, PlaceLeaves, PlaceAfter}
use Rattle.lexleader.specs.declared.places.Place.{Place}
use Rattle.lexleader.proofs.Walk.{pairs_start, walk_end, later-pairs}
use Rattle.lexleader.proofs.Numbers.{row-few, row-many}

-- ---- a row's clauses are those of its pairs from the first auxiliary on

later-on : (j d : ℕ) (q : Pair) (pairs : List Pair) → 2 ≤ j → later_clauses d q pairs ≡ clauses_on j (d + 1) (q ∷ pairs)
unfolding later_clauses clauses_on
later-on j d q [] h = rw (ne_eqb j 1 (λ e. omega arith))
later-on j d q (p ∷ pairs) h =
    let before : d ≡ d + 1 - 1 = omega arith in
    rw (ne_eqb j 1 (λ e. omega arith))
    (ap (λ (c : ℕ). later_six (d + 1) c q p ++ later_clauses (d + 1) p pairs) before
    ∙ ap (λ (l : List (List ℕ)). later_six (d + 1) (d + 1 - 1) q p ++ l) (later-on (j + 1) (d + 1) p pairs (omega arith)))

pairs-on : (e : ℕ) (pairs : List Pair) → pair_clauses e pairs ≡ clauses_on 1 e pairs
unfolding pair_clauses clauses_on
pairs-on e [] = refl
pairs-on e (q ∷ []) = refl
pairs-on e (q ∷ p ∷ pairs) = ap (λ (l : List (List ℕ)). table_of 1 e q p ++ l) (later-on 2 e p pairs (omega arith))

pub row_on : (e : ℕ) (row : List ℕ) → row_clauses e row ≡ clauses_on 1 e (pairs_at 0 row)
unfolding row_clauses
row_on e row = pairs-on e (pairs_of row) ∙ ap (clauses_on 1 e) (pairs_start row)

six : (j e : ℕ) (q p : Pair) → length (table_of j e q p) ≡ 6
six j e q p = go (eqb j 1)
  where
    go : (first : Bool) → length (column_of first e q p) ≡ 6
    go true = refl
    go false = refl

pub six-length : (row : List ℕ) (p : Place) → length (six_at row p) ≡ 6
unfolding six_at
six-length row p = six p.j p.auxiliary (pair_at row p.index) (pair_at row p.next)

-- the last of them
last-of-six : (j e : ℕ) (q p : Pair) → drop 5 (table_of j e q p) ≡ get_or (drop 5 (table_of j e q p)) 0 [] ∷ []
last-of-six j e q p = go (eqb j 1)
  where
    go : (first : Bool) → let table = column_of first e q p in drop 5 table ≡ get_or (drop 5 table) 0 [] ∷ []
    go true = refl
    go false = refl

-- past the clauses of the first auxiliary
past-six : (j e : ℕ) (q p : Pair) (pairs : List Pair) (k : ℕ)
    → drop (6 + k) (clauses_on j e (q ∷ p ∷ pairs)) ≡ drop k (clauses_on (j + 1) (e + 1) (p ∷ pairs))
unfolding clauses_on
past-six j e q p pairs k =
    ap (λ (n : ℕ). drop (n + k) (table_of j e q p ++ clauses_on (j + 1) (e + 1) (p ∷ pairs))) (sym (six j e q p))
    ∙ drop-append-add (table_of j e q p) (clauses_on (j + 1) (e + 1) (p ∷ pairs)) k

-- ---- by number: past the clauses of k auxiliaries

pairs-from : (j e : ℕ) (pairs : List Pair) (k : ℕ) → k < length pairs → drop (6 * k) (clauses_on j e pairs) ≡ clauses_on (j + k) (e + k) (drop k pairs)
pairs-from j e pairs zero h = rw (add-zero, add-zero)
pairs-from j e [] (suc k) h = absurd (omega arith)
pairs-from j e (q ∷ []) (suc k) h = absurd (omega arith)
pairs-from j e (q ∷ p ∷ pairs) (suc k) h =
    let more : 6 * suc k ≡ 6 + 6 * k = omega arith in
    let one : j + 1 + k ≡ j + suc k = omega arith in
    let on : e + 1 + k ≡ e + suc k = omega arith in
    ap (λ (n : ℕ). drop n (clauses_on j e (q ∷ p ∷ pairs))) more
    ∙ past-six j e q p pairs (6 * k)
    ∙ pairs-from (j + 1) (e + 1) (p ∷ pairs) k (omega arith)
    ∙ ap₂ (λ (i d : ℕ). clauses_on i d (drop k (p ∷ pairs))) one on

-- ---- what stands at a place

-- the first clause is the head
pub by-head : {l : List (List ℕ)} {x : List ℕ} {r : List (List ℕ)} → l ≡ x ∷ r → l ≡ get_or l 0 [] ∷ r
by-head e = rw e

module _ (row : List ℕ) (p : Place) where
  -- no clause stands past the last
  pub past : length row ≤ p.index → (clauses_at row p ≡ []) × (auxiliary_after row p ≡ p.auxiliary)
  unfolding clauses_at auxiliary_after clauses_on
  past h = rw (walk_end (left_out row) row p.index h) (drop-none (p.r - 1), omega arith)
    where
      drop-none : (k : ℕ) → drop {A = List ℕ} k [] ≡ []
      drop-none zero = refl
      drop-none (suc k) = refl

  -- the last clause of an auxiliary
  pub last-clause : p.r ≡ 6 → {rest : List (List ℕ)} → clauses_at row p ≡ drop (p.r - 1) (six_at row p) ++ rest → clauses_at row p ≡ get_or (clauses_at row p) 0 [] ∷ rest
  unfolding six_at
  last-clause e {rest} is =
      let r : p.r - 1 ≡ 5 = omega arith in
      by-head (is
      ∙ ap (λ (k : ℕ). drop k (six_at row p) ++ rest) r
      ∙ ap (λ (l : List (List ℕ)). l ++ rest) (last-of-six p.j p.auxiliary (pair_at row p.index) (pair_at row p.next)))

  pub few-auxiliaries : PlaceStands row p → p.auxiliary ≤ max_made_variables + 1
  unfolding auxiliary_after
  few-auxiliaries s = omega (arith, s.after-most)

  module _ (s : PlaceStands row p) (h : p.index < length row) where
    abbrev own : Pair
    own = pair_at row p.index

    -- ---- the row's only pair

    module _ (last : p.next ≡ length row) where
      one : pairs_at p.index row ≡ own ∷ []
      one = s.here h ∙ ap (λ (l : List Pair). own ∷ l) ((s.then h).same ∙ walk_end (left_out row) row p.next (omega arith))

      pub at_one : (q : Pair) → get_or (clauses_at row p) 0 [] ≡ get_or (table_of 1 p.auxiliary own q) 0 []
      unfolding clauses_at clauses_on
      at_one q = let a = s.alone h last in rw (one, a.0, a.1)

      pub then_one : clauses_at row p ≡ get_or (clauses_at row p) 0 [] ∷ []
      unfolding clauses_at clauses_on
      then_one = let a = s.alone h last in rw (one, a.0, a.1)

      pub after_one : auxiliary_after row p ≡ p.auxiliary
      unfolding auxiliary_after
      after_one = rw one (omega arith)

    -- ---- a pair and the next

    module _ (more : p.next < length row) where
      abbrev next : Pair
      next = pair_at row p.next

      here-next : pairs_at p.next row ≡ next ∷ pairs_at (p.next + 1) row
      here-next = (s.then h).here more

      two : pairs_at p.index row ≡ own ∷ next ∷ pairs_at (p.next + 1) row
      two = s.here h ∙ ap (λ (l : List Pair). own ∷ l) ((s.then h).same ∙ here-next)

      abbrev all : List (List ℕ)
      all = clauses_on p.j p.auxiliary (own ∷ next ∷ pairs_at (p.next + 1) row)

      at_place : clauses_at row p ≡ drop (p.r - 1) all
      unfolding clauses_at
      at_place = rw two

      enough : p.r - 1 < length all
      unfolding clauses_on
      enough = omega (arith, s.low, s.high, six p.j p.auxiliary own next, length-append (table_of p.j p.auxiliary own next) (clauses_on (p.j + 1) (p.auxiliary + 1) (next ∷ pairs_at (p.next + 1) row)))

      pub at-two : get_or (clauses_at row p) 0 [] ≡ get_or (table_of p.j p.auxiliary own next) (p.r - 1) []
      unfolding clauses_on
      at-two =
          ap (λ (l : List (List ℕ)). get_or l 0 []) at_place
          ∙ get_or-drop (p.r - 1) all 0 []
          ∙ ap (λ (k : ℕ). get_or all k []) (add-zero (p.r - 1))
          ∙ get_or-append (table_of p.j p.auxiliary own next) (clauses_on (p.j + 1) (p.auxiliary + 1) (next ∷ pairs_at (p.next + 1) row)) [] (p.r - 1) (omega (arith, s.low, s.high, six p.j p.auxiliary own next))

      -- the clause at the place, and those after it
      step : clauses_at row p ≡ get_or (clauses_at row p) 0 [] ∷ drop (p.r - 1 + 1) all
      step =
          let head : get_or all (p.r - 1) [] ≡ get_or (clauses_at row p) 0 [] =
          ap (λ (k : ℕ). get_or all k []) (sym (add-zero (p.r - 1))) ∙ sym (get_or-drop (p.r - 1) all 0 []) ∙ ap (λ (l : List (List ℕ)). get_or l 0 []) (sym at_place) in
          at_place ∙ drop-step all (p.r - 1) [] enough ∙ ap (λ (clause : List ℕ). clause ∷ drop (p.r - 1 + 1) all) head

      -- the next clause of the same auxiliary
      then_same : (q : Place) → q ≡ record { index = p.index; next = p.next; auxiliary = p.auxiliary; j = p.j; r = p.r + 1 }
          → clauses_at row p ≡ get_or (clauses_at row p) 0 [] ∷ clauses_at row q
      unfolding clauses_at
      then_same q e =
          let r : p.r - 1 + 1 ≡ p.r + 1 - 1 = omega (arith, s.low) in
          step ∙ rw (e, two, r)

      pub same-stands : p.r < 6 → (q : Place) → q ≡ record { index = p.index; next = p.next; auxiliary = p.auxiliary; j = p.j; r = p.r + 1 }
          → PlaceAfter row p (get_or (clauses_at row p) 0 [] ∷ []) q
      unfolding auxiliary_after
      same-stands low q e =
          let stands : PlaceStands row q = rw e (record {
            within = s.within;
            here = s.here;
            then = s.then;
            alone = λ _ last. absurd (omega arith);
            one = s.one;
            early = s.early;
            low = omega arith;
            high = omega arith;
            after-most = s.after-most;
          }) in
          record { stands = stands; passed = then_same q e; auxiliary = rw e }

      -- the clauses of the auxiliary, and those of the next ones
      pub then_next : clauses_at row p ≡ drop (p.r - 1) (six_at row p) ++ clauses_on (p.j + 1) (p.auxiliary + 1) (pairs_at p.next row)
      unfolding clauses_on six_at
      then_next =
          at_place
          ∙ drop-append-le (p.r - 1) (table_of p.j p.auxiliary own next) (clauses_on (p.j + 1) (p.auxiliary + 1) (next ∷ pairs_at (p.next + 1) row)) (omega (arith, s.high, six p.j p.auxiliary own next))
          ∙ ap (λ (pairs : List Pair). drop (p.r - 1) (table_of p.j p.auxiliary own next) ++ clauses_on (p.j + 1) (p.auxiliary + 1) pairs) (sym here-next)

      pub after_next : p.auxiliary + 1 + (length (pairs_at p.next row) - 1) ≡ auxiliary_after row p
      unfolding auxiliary_after
      after_next = omega (arith, ap length two, ap length here-next)

      -- q is the place of the next auxiliary's first clause
      pub to-next : (q : Place)
          → PlaceLeaves row q (clauses_on (p.j + 1) (p.auxiliary + 1) (pairs_at p.next row)) (p.auxiliary + 1 + (length (pairs_at p.next row) - 1))
          → PlaceAfter row p (drop (p.r - 1) (six_at row p)) q
      to-next q z = record {
        stands = z.stands;
        passed = then_next ∙ ap (λ (l : List (List ℕ)). drop (p.r - 1) (six_at row p) ++ l) (sym z.are);
        auxiliary = z.auxiliary ∙ after_next;
      }

-- a clause stands at every place but the last
pub some-clause : (row : List ℕ) (p : Place) → PlaceStands row p → p.index < length row → 0 < length (clauses_at row p)
some-clause row p s h = go (lt-or-le p.next (length row))
  where
    go : (p.next < length row) ⊎ (length row ≤ p.next) → 0 < length (clauses_at row p)
    go (inl l) = omega (arith, ap length (step row p s h l))
    go (inr l) = let last : p.next ≡ length row = omega (arith, (s.then h).within) in omega (arith, ap length (then_one row p s h last))

-- ---- a row's first pair

module _ (row : List ℕ) (e index : ℕ) (n : NextPair row 0 index) where
  same-pairs : pairs_of row ≡ pairs_at index row
  same-pairs = pairs_start row ∙ n.same

  pub first_rest : (clauses_on 1 e (pairs_at index row) ≡ row_clauses e row) × (e + (length (pairs_at index row) - 1) ≡ e + auxiliaries row)
  unfolding auxiliaries
  first_rest = (ap (clauses_on 1 e) (sym n.same) ∙ sym (row_on e row), omega (arith, ap length same-pairs))

  pub first-none : length row ≤ index → ([] ≡ row_clauses e row) × (e ≡ e + auxiliaries row)
  unfolding clauses_on
  first-none h =
      let none : pairs_at index row ≡ [] = walk_end (left_out row) row index h in
      (sym (ap (clauses_on 1 e) none) ∙ first_rest.0, omega (arith, ap length none, first_rest.1))

-- ---- the first clauses of an auxiliary, for a pair at an index

module _ (row : List ℕ) (index next e j : ℕ) (h : index < length row) (here : pairs_at index row ≡ pair_at row index ∷ pairs_at (index + 1) row)
    (then : NextPair row (index + 1) next) where
  abbrev start : Place
  start = record { index = index; next = next; auxiliary = e; j = j; r = 1 }

  pub starts : (next ≡ length row → j ≡ 1) → 1 ≤ j → j ≤ index + 1 → {clauses : List (List ℕ)} {after : ℕ}
      → clauses_on j e (pairs_at index row) ≡ clauses → e + (length (pairs_at index row) - 1) ≡ after → after ≤ max_made_variables + 1 → PlaceLeaves row start clauses after
  unfolding clauses_at auxiliary_after
  starts alone one early left auxiliary few =
      let stands : PlaceStands row start = record {
        within = omega arith;
        here = λ _. here;
        then = λ _. then;
        alone = λ _ last. (alone last, refl);
        one = one;
        early = early;
        low = omega arith;
        high = omega arith;
        after-most = omega (arith, auxiliary, few);
      } in
      record { stands = stands; are = left; auxiliary = auxiliary }

  -- a later auxiliary has no clauses where no pair follows
  pub no-later : 2 ≤ j → next ≡ length row → (clauses_on j e (pairs_at index row) ≡ []) × (e + (length (pairs_at index row) - 1) ≡ e)
  unfolding clauses_on
  no-later later last =
      let one : pairs_at index row ≡ pair_at row index ∷ [] = here ∙ ap (λ (l : List Pair). pair_at row index ∷ l) (then.same ∙ walk_end (left_out row) row next (omega arith)) in
      rw (one, ne_eqb j 1 (λ e. omega arith)) (refl, omega arith)

-- the place past the last clause, with the clauses and the auxiliary that are left
pub at_last : (row : List ℕ) (e : ℕ) (p : Place) → p ≡ past_last row e → e ≤ max_made_variables + 1 → {clauses : List (List ℕ)} {after : ℕ} → [] ≡ clauses → e ≡ after
    → PlaceLeaves row p clauses after
at_last row e p is few none same =
    let z = past row (past_last row e) (omega arith) in
    let stands : PlaceStands row (past_last row e) = record {
      within = omega arith;
      here = λ h. absurd (omega arith);
      then = λ h. absurd (omega arith);
      alone = λ h last. absurd (omega arith);
      one = omega arith;
      early = omega arith;
      low = omega arith;
      high = omega arith;
      after-most = omega (arith, z.1);
    } in
    rw is (record { stands = stands; are = z.0 ∙ none; auxiliary = z.1 ∙ same })

-- ---- clause number q of a row

module _ (row : List ℕ) (e q i : ℕ) (p : Place) (is : p ≡ record { index = i; next = p.next; auxiliary = e + q / 6; j = q / 6 + 1; r = q % 6 + 1 })
    (inside : q / 6 < length (pairs_of row)) (found : drop (q / 6) (pairs_of row) ≡ pairs_at i row) where
  pub numbered : get_or (clauses_at row p) 0 [] ≡ get_or (row_clauses e row) q []
  unfolding clauses_at row_clauses
  numbered =
      let whole : 6 * (q / 6) + (q % 6 + 1 - 1 + 0) ≡ q = omega arith in
      let one : q / 6 + 1 ≡ 1 + q / 6 = omega arith in
      let pairs = pairs_of row in
      ap (λ (x : Place). get_or (clauses_at row x) 0 []) is
      ∙ get_or-drop (q % 6 + 1 - 1) (clauses_on (q / 6 + 1) (e + q / 6) (pairs_at i row)) 0 []
      ∙ ap (λ (l : List (List ℕ)). get_or l (q % 6 + 1 - 1 + 0) [])
      (ap₂ (λ (j : ℕ) (l : List Pair). clauses_on j (e + q / 6) l) one (sym found) ∙ sym (pairs-from 1 e pairs (q / 6) inside))
      ∙ get_or-drop (6 * (q / 6)) (clauses_on 1 e pairs) (q % 6 + 1 - 1 + 0) []
      ∙ ap (λ (k : ℕ). get_or (clauses_on 1 e pairs) k []) whole
      ∙ ap (λ (l : List (List ℕ)). get_or l q []) (sym (pairs-on e pairs))

  -- the last pair has no clauses of its own, so it is the only one
  only : q < length (row_clauses e row) → length (pairs_at i row) ≡ 1 → q ≡ 0
  only many one = go (lt-or-le (length (pairs_of row)) 2)
    where
      size : length (pairs_of row) ≡ q / 6 + 1
      size = omega (arith, length-drop (q / 6) (pairs_of row), ap length found)

      go : (length (pairs_of row) < 2) ⊎ (2 ≤ length (pairs_of row)) → q ≡ 0
      go (inl l) = omega (arith, size, row-few e row l)
      go (inr l) = absurd (omega (arith, size, row-many e row l))

  module _ (many : q < length (row_clauses e row)) (h : i < length row) (here : pairs_at i row ≡ pair_at row i ∷ pairs_at (i + 1) row) (then : NextPair row (i + 1) p.next) where
    pub number-stands : e + auxiliaries row ≤ max_made_variables + 1 → PlaceStands row p
    unfolding auxiliary_after auxiliaries
    number-stands low =
        let last : p.next ≡ length row → q ≡ 0 = λ end. only many (ap length here ∙ ap (λ (l : List Pair). suc (length l)) (then.same ∙ walk_end (left_out row) row p.next (omega arith))) in
        rw is (record {
          within = omega arith;
          here = λ _. here;
          then = λ _. then;
          alone = λ _ end. (omega (arith, last end), omega (arith, last end));
          one = omega arith;
          early = omega (arith, ap length (pairs_start row), (later-pairs (left_out row) row 0 i (omega arith)).1, length-drop (q / 6) (pairs_of row), ap length found);
          low = omega arith;
          high = omega arith;
          after-most = omega (arith, low, length-drop (q / 6) (pairs_of row), ap length found);
        })
