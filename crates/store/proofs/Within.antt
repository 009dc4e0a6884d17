-- Each literal in a clause of a well formed store is of one of its variables. Assumes nothing.
use mathlib.Core.Path.{◌≡◌}
use mathlib.Core.Bool.{true}
use mathlib.Core.List.{List, []}
use Prim.Native.Nat.{ℕ, ◌+◌, ◌≤◌, ◌<◌}
use native.Mathlib.Omega.{arith}
use lib.ListN.{length, get_or, take}
use lib.Seq.{slice, get_or-take, get_or-drop, length-slice}
use Rattle.lists.specs.Tests.{all_of}
use Rattle.lists.proofs.Members.{all-at, all_in}
use Rattle.store.specs.Literals.{is_literal}
use Rattle.store.specs.Stores.{Store, literal_count, clause_at, clauses_in, plain_of, is_formed, max_variables, FormedFormula}
use Rattle.store.proofs.FormLaws.{literal-within, literal-low, literal-high}
use Rattle.store.proofs.Demands.{used}
use Rattle.store.proofs.Cuts.{clauses-count, clause-is, end_is}
use Rattle.store.proofs.Formed.{Formed, formed, formed-clauses}

module _ (s : Store) (formed : Formed s) where
  clause-within : (c : ℕ) → c < s.counts.clauses → all_of (is_literal s.counts.variables) (clause_at s.literals s.ends c) ≡ true
  clause-within c h = all_in (is_literal s.counts.variables) (clause_at s.literals s.ends c) 0 (λ i l. at i l)
    where
      from : ℕ
      from = literal_count c s.ends

      to : ℕ
      to = literal_count (c + 1) s.ends

      at : (i : ℕ) → i < length (slice from to s.literals) → is_literal s.counts.variables (get_or (slice from to s.literals) i 0) ≡ true
      at i l =
          let low : to ≤ used s = omega (arith, end_is c s.ends, formed.end-within c h) in
          let inside : from + i < to = omega (arith, formed.literals-long, length-slice from to s.literals (omega (arith, formed.literals-long))) in
          rw (get_or-drop from (take to s.literals) i 0, get_or-take to s.literals (from + i) 0 inside)
          (literal-within _ _ (formed.literal-low (from + i) (omega arith)) (formed.literal-high (from + i) (omega arith)))

  pub literals-within : all_of (all_of (is_literal s.counts.variables)) (plain_of s) ≡ true
  unfolding plain_of
  literals-within = all_in (all_of (is_literal s.counts.variables)) (clauses_in s.counts.clauses s.literals s.ends) [] (λ c l.
      let h : c < s.counts.clauses = omega (arith, clauses-count s.literals s.ends s.counts.clauses formed.ends-long) in
      rw (clause-is s.literals s.ends s.counts.clauses c formed.ends-long h) (clause-within c h))

  pub formed-formula : FormedFormula s.counts.variables s.counts.clauses s.literals s.ends
  unfolding plain_of
  formed-formula = record { clauses = formed-clauses s formed; clauses-fit = formed.clauses-fit; literals-good = literals-within }

-- each of its clauses has such literals
pub clause-good : (n m : ℕ) (literals ends : List ℕ) → FormedFormula n m literals ends → (c : ℕ) → c < m → all_of (is_literal n) (clause_at literals ends c) ≡ true
clause-good n m literals ends f c h =
    rw (clause-is literals ends m c f.clauses.known h) at
    (all-at (all_of (is_literal n)) (clauses_in m literals ends) [] f.literals-good c (omega (arith, clauses-count literals ends m f.clauses.known)))

-- and literals of 1..k where n is at most k
pub formula-within : (n k m : ℕ) (literals ends : List ℕ) → n ≤ k → FormedFormula n m literals ends → FormedFormula k m literals ends
formula-within n k m literals ends h f = record {
  clauses = f.clauses;
  clauses-fit = f.clauses-fit;
  literals-good = all_in (all_of (is_literal k)) (clauses_in m literals ends) [] (λ c l.
      let clause = get_or (clauses_in m literals ends) c [] in
      all_in (is_literal k) clause 0 (λ i g.
      let good = all-at (is_literal n) clause 0 (all-at (all_of (is_literal n)) (clauses_in m literals ends) [] f.literals-good c l) i g in
      literal-within k (get_or clause i 0) (literal-low n _ good) (omega (arith, literal-high n _ good))));
}

-- so that a well formed store has clauses of such variables as there may be
pub store-formula : (s : Store) → is_formed s ≡ true → FormedFormula max_variables s.counts.clauses s.literals s.ends
store-formula s e = let f = formed s e in formula-within s.counts.variables max_variables s.counts.clauses s.literals s.ends f.variables-fit (formed-formula s f)
