-- The clauses of the made formula by number, from 0: the first m are the plain ones, cut by the ends, and the others those that the rows add; and what one row more
-- adds. Assumes nothing.
use mathlib.Core.Path.{◌≡◌, sym, ap, ◌∙◌}
use mathlib.Core.Bool.{true}
use mathlib.Core.List.{List, [], ◌∷◌, ◌++◌, append-nil, append_assoc}
use Prim.Native.Nat.{ℕ, ◌+◌, ◌-◌, ◌≤◌, ◌<◌}
use native.Mathlib.Omega.{arith}
use lib.ListN.{length, get_or, take, length-append, get_or-append}
use lib.Seq.{length-take-le, get_or-append-add}
use Rattle.store.specs.Stores.{Store, clause_at, plain_of, held_rows, is_formed}
use Rattle.store.proofs.Cuts.{length_cut, clause-is}
use Rattle.store.proofs.Demands.{rest_of}
use Rattle.lexleader.specs.Made.{row_clauses, auxiliaries, rows_clauses, all_auxiliaries, made, made_variables}
use Rattle.lexleader.specs.Store.{made_of, variables_of, clauses_of}
use Rattle.lexleader.specs.Counted.{Counted}
use Rattle.lexleader.specs.declared.counting.Totals.{Totals}

module _ (s : Store) (formed : is_formed s ≡ true) where
  -- the ends of the clauses in use
  abbrev used-ends : List ℕ
  used-ends = take s.counts.clauses s.ends

  ends-length : length used-ends ≡ s.counts.clauses
  ends-length = length-take-le s.counts.clauses s.ends (rest_of s formed).ends-long

  pub plain-length : length (plain_of s) ≡ s.counts.clauses
  unfolding plain_of
  plain-length = length_cut 0 s.literals used-ends ∙ ends-length

  -- what the rows add
  abbrev pub added_of : List (List ℕ)
  added_of = rows_clauses (s.counts.variables + 1) (held_rows s)

  pub clauses-are : clauses_of s ≡ s.counts.clauses + length added_of
  unfolding clauses_of made_of made
  clauses-are = length-append (plain_of s) added_of ∙ ap (λ (m : ℕ). m + length added_of) plain-length

  -- clause c, from 0: a plain one's literals, or one that the rows add
  pub plain_at : (c : ℕ) → c < s.counts.clauses → get_or (plain_of s) c [] ≡ clause_at s.literals s.ends c
  unfolding plain_of
  plain_at c h = clause-is s.literals s.ends s.counts.clauses c (rest_of s formed).ends-long h

  pub made_plain : (c : ℕ) → c < s.counts.clauses → get_or (made_of s) c [] ≡ clause_at s.literals s.ends c
  unfolding made_of made
  made_plain c h = get_or-append (plain_of s) added_of [] c (omega (arith, plain-length)) ∙ plain_at c h

  pub made-added : (c : ℕ) → s.counts.clauses ≤ c → get_or (made_of s) c [] ≡ get_or added_of (c - s.counts.clauses) []
  unfolding made_of made
  made-added c h =
      let at : c ≡ length (plain_of s) + (c - s.counts.clauses) = omega (arith, plain-length) in
      ap (λ (k : ℕ). get_or (plain_of s ++ added_of) k []) at ∙ get_or-append-add (plain_of s) added_of (c - s.counts.clauses) []

-- what was counted is N and M
pub counted-variables : (s : Store) {r : Totals} → Counted s.counts s.images r → r.variables ≡ variables_of s
unfolding variables_of held_rows
counted-variables s c = c.variables

pub counted-clauses : (s : Store) → is_formed s ≡ true → {r : Totals} → Counted s.counts s.images r → r.clauses ≡ clauses_of s
unfolding held_rows
counted-clauses s formed c = c.clauses ∙ sym (clauses-are s formed)

-- ---- a row more behind the others

clauses-newest : (e : ℕ) (rows : List (List ℕ)) (row : List ℕ) → rows_clauses e (rows ++ (row ∷ [])) ≡ rows_clauses e rows ++ row_clauses (e + all_auxiliaries rows) row
unfolding rows_clauses all_auxiliaries
clauses-newest e [] row = let same : e ≡ e + 0 = omega arith in append-nil (row_clauses e row) ∙ ap (λ (k : ℕ). row_clauses k row) same
clauses-newest e (r ∷ rows) row =
    let on : e + auxiliaries r + all_auxiliaries rows ≡ e + (auxiliaries r + all_auxiliaries rows) = omega arith in
    ap (λ (l : List (List ℕ)). row_clauses e r ++ l) (clauses-newest (e + auxiliaries r) rows row ∙ ap (λ (k : ℕ). rows_clauses (e + auxiliaries r) rows ++ row_clauses k row) on)
    ∙ sym (append_assoc (row_clauses e r) (rows_clauses (e + auxiliaries r) rows) (row_clauses (e + (auxiliaries r + all_auxiliaries rows)) row))

auxiliaries-newest : (rows : List (List ℕ)) (row : List ℕ) → all_auxiliaries (rows ++ (row ∷ [])) ≡ all_auxiliaries rows + auxiliaries row
unfolding all_auxiliaries
auxiliaries-newest [] row = omega arith
auxiliaries-newest (r ∷ rows) row = omega (arith, auxiliaries-newest rows row)

module _ (n : ℕ) where
  pub made-newest : (formula rows : List (List ℕ)) (row : List ℕ) → made n formula (rows ++ (row ∷ [])) ≡ made n formula rows ++ row_clauses (made_variables n rows + 1) row
  unfolding made made_variables
  made-newest formula rows row =
      let on : n + 1 + all_auxiliaries rows ≡ n + all_auxiliaries rows + 1 = omega arith in
      ap (λ (l : List (List ℕ)). formula ++ l) (clauses-newest (n + 1) rows row ∙ ap (λ (k : ℕ). rows_clauses (n + 1) rows ++ row_clauses k row) on)
      ∙ sym (append_assoc formula (rows_clauses (n + 1) rows) (row_clauses (n + all_auxiliaries rows + 1) row))

  pub variables-newest : (rows : List (List ℕ)) (row : List ℕ) → made_variables n (rows ++ (row ∷ [])) ≡ made_variables n rows + auxiliaries row
  unfolding made_variables
  variables-newest rows row = omega (arith, auxiliaries-newest rows row)
