-- The made formula is one of the variables 1..N: every literal of it is a literal of these. Assumes nothing.
use mathlib.Core.Path.{◌≡◌, refl, ◌∙◌}
use mathlib.Core.Bool.{true, ◌&&◌}
use mathlib.Core.List.{List, [], ◌∷◌}
use Prim.Native.Nat.{ℕ, ◌+◌, ◌-◌, ◌*◌, ◌≤◌}
use native.Mathlib.Omega.{arith}
use lib.ListN.{length}
use Rattle.lists.specs.Tests.{all_of}
use Rattle.lists.proofs.Cases.{and_l, and_r, and_both}
use Rattle.lists.proofs.Members.{all_append}
use Rattle.store.specs.Literals.{is_literal}
use Rattle.store.specs.Stores.{is_row}
use Rattle.store.proofs.FormLaws.{literal-low, literal-high, literal-within, opposite-within}
use Rattle.store.proofs.Formed.{row_of}
use Rattle.lexleader.specs.Rows.{Pair, pairs_of}
use Rattle.lexleader.specs.Made.{later_clauses, pair_clauses, row_clauses, auxiliaries, rows_clauses, all_auxiliaries, made, made_variables}
use Rattle.lexleader.proofs.Pairs.{both}
use Rattle.lexleader.proofs.Remaining.{pairs-within}

-- ---- a literal of 1..n

-- of more variables too
literal-more : (n N code : ℕ) → n ≤ N → is_literal n code ≡ true → is_literal N code ≡ true
literal-more n N code h e =
    literal-within N code (literal-low n code e) (omega (arith, literal-high n code e))

pub all-literals-more : (n N : ℕ) → n ≤ N → (clause : List ℕ) → all_of (is_literal n) clause ≡ true → all_of (is_literal N) clause ≡ true
unfolding all_of
all-literals-more n N h [] e = refl
all-literals-more n N h (code ∷ clause) e =
    and_both (literal-more n N code h (and_l (is_literal n code) _ e)) (all-literals-more n N h clause (and_r (is_literal n code) _ e))

-- every clause of a formula
pub formula-more : (n N : ℕ) → n ≤ N → (formula : List (List ℕ)) → all_of (all_of (is_literal n)) formula ≡ true → all_of (all_of (is_literal N)) formula ≡ true
unfolding all_of
formula-more n N h [] e = refl
formula-more n N h (clause ∷ formula) e =
    and_both (all-literals-more n N h clause (and_l (all_of (is_literal n) clause) _ e)) (formula-more n N h formula (and_r (all_of (is_literal n) clause) _ e))

pairs-more : (n N : ℕ) → n ≤ N → (pairs : List Pair) → all_of (both (is_literal n)) pairs ≡ true → all_of (both (is_literal N)) pairs ≡ true
unfolding all_of both
pairs-more n N h [] e = refl
pairs-more n N h (q ∷ pairs) e =
    let own = and_l (is_literal n q.x && is_literal n q.y) _ e in
    and_both (and_both (literal-more n N q.x h (and_l (is_literal n q.x) _ own)) (literal-more n N q.y h (and_r (is_literal n q.x) _ own)))
    (pairs-more n N h pairs (and_r (is_literal n q.x && is_literal n q.y) _ e))

module _ (N : ℕ) where
  variable-within : (e : ℕ) → 1 ≤ e → e ≤ N → is_literal N (2 * e) ≡ true
  variable-within e low high = literal-within N (2 * e) (omega arith) (omega arith)

  -- ---- the clauses of a list of pairs

  later-within : (d : ℕ) (q : Pair) (pairs : List Pair) → 1 ≤ d → d + length pairs ≤ N → all_of (both (is_literal N)) (q ∷ pairs) ≡ true
      → all_of (all_of (is_literal N)) (later_clauses d q pairs) ≡ true
  unfolding all_of both later_clauses
  later-within d q [] low high h = refl
  later-within d q (p ∷ pairs) low high h =
      let rest = and_r (is_literal N q.x && is_literal N q.y) _ h in
      let x = and_l (is_literal N q.x) _ (and_l (is_literal N q.x && is_literal N q.y) _ h) in
      let y = and_r (is_literal N q.x) _ (and_l (is_literal N q.x && is_literal N q.y) _ h) in
      let x2 = and_l (is_literal N p.x) _ (and_l (is_literal N p.x && is_literal N p.y) _ rest) in
      let y2 = and_r (is_literal N p.x) _ (and_l (is_literal N p.x && is_literal N p.y) _ rest) in
      let e = variable-within (d + 1) (omega arith) (omega arith) in
      let before = variable-within d low (omega arith) in
      let more = later-within (d + 1) p pairs (omega arith) (omega arith) rest in
      rw (
        e,
        before,
        x,
        y,
        y2,
        opposite-within N (2 * (d + 1)) e,
        opposite-within N (2 * d) before,
        opposite-within N q.x x,
        opposite-within N q.y y,
        opposite-within N p.x x2,
        more,
      )

  pairs-clauses-within : (e : ℕ) (pairs : List Pair) → 1 ≤ e → e + (length pairs - 1) ≤ N + 1 → all_of (both (is_literal N)) pairs ≡ true
      → all_of (all_of (is_literal N)) (pair_clauses e pairs) ≡ true
  unfolding all_of both pair_clauses
  pairs-clauses-within e [] low high h = refl
  pairs-clauses-within e (q ∷ []) low high h =
      let own = and_l (is_literal N q.x && is_literal N q.y) _ h in
      rw (opposite-within N q.x (and_l (is_literal N q.x) _ own), and_r (is_literal N q.x) _ own)
  pairs-clauses-within e (q ∷ p ∷ pairs) low high h =
      let rest = and_r (is_literal N q.x && is_literal N q.y) _ h in
      let x = and_l (is_literal N q.x) _ (and_l (is_literal N q.x && is_literal N q.y) _ h) in
      let y = and_r (is_literal N q.x) _ (and_l (is_literal N q.x && is_literal N q.y) _ h) in
      let x2 = and_l (is_literal N p.x) _ (and_l (is_literal N p.x && is_literal N p.y) _ rest) in
      let y2 = and_r (is_literal N p.x) _ (and_l (is_literal N p.x && is_literal N p.y) _ rest) in
      let own = variable-within e low (omega arith) in
      let more = later-within e p pairs low (omega arith) rest in
      rw (
        own,
        x,
        y,
        y2,
        opposite-within N (2 * e) own,
        opposite-within N q.x x,
        opposite-within N q.y y,
        opposite-within N p.x x2,
        more,
      )

  -- ---- the clauses of rows over 1..n

  module _ (n : ℕ) (small : n ≤ N) where
    rows-within : (e : ℕ) (rows : List (List ℕ)) → 1 ≤ e → e + all_auxiliaries rows ≤ N + 1 → all_of (is_row n) rows ≡ true
        → all_of (all_of (is_literal N)) (rows_clauses e rows) ≡ true
    unfolding all_of rows_clauses all_auxiliaries
    rows-within e [] low high h = refl
    rows-within e (row ∷ rows) low high h =
        let pairs = pairs-more n N small (pairs_of row) (pairs-within n row (row_of n row (and_l (is_row n row) _ h))) in
        let here : all_of (all_of (is_literal N)) (row_clauses e row) ≡ true =
        unfold row_clauses auxiliaries in pairs-clauses-within e (pairs_of row) low (omega (arith, high)) pairs in
        all_append (all_of (is_literal N)) (row_clauses e row) (rows_clauses (e + auxiliaries row) rows)
        ∙ and_both here (rows-within (e + auxiliaries row) rows (omega arith) (omega (arith, high)) (and_r (is_row n row) _ h))

-- the whole
pub made-within : (n : ℕ) (formula rows : List (List ℕ)) → all_of (all_of (is_literal n)) formula ≡ true → all_of (is_row n) rows ≡ true
    → all_of (all_of (is_literal (made_variables n rows))) (made n formula rows) ≡ true
unfolding made made_variables
made-within n formula rows literals permutations =
    let N : ℕ = n + all_auxiliaries rows in
    all_append (all_of (is_literal N)) formula (rows_clauses (n + 1) rows)
    ∙ and_both (formula-more n N (omega arith) formula literals) (rows-within N n (omega arith) (n + 1) rows (omega arith) (omega arith) permutations)
