-- "Such a clause forbids nothing" (document 02, CR 7): the clauses with a contradictory pair are those that hold under every assignment, and a formula holds just where its
-- judged clauses do. Assumes nothing.
use mathlib.Core.Path.{◌≡◌, refl, sym, ap, ◌∙◌}
use mathlib.Core.Bool.{Bool, true, false, not, cond}
use mathlib.Core.List.{List, [], ◌∷◌, Memᴰ}
use mathlib.Core.Logic.{◌↔◌}
use Prim.Native.Nat.{ℕ, ◌+◌, ◌*◌, ◌%◌}
use native.Mathlib.Omega.{arith}
use borrow.Author.Tests.{eqb-true, eqb-false}
use lib.ListN.{get_or}
use Rattle.lists.specs.Tests.{all_of, has}
use Rattle.lists.proofs.Cases.{never}
use Rattle.lists.proofs.Members.{any_at, any-in}
use Rattle.store.specs.Literals.{variable_of, is_negative, opposite_of}
use Rattle.symmetry.specs.Judged.{has_opposites, judged}
use Rattle.symmetry.proofs.SetLaws.{mem-at, at_mem, has-iff}
use Rattle.symmetry.proofs.JudgedLaws.{opposites-iff}
use Rattle.lexleader.specs.Models.{literal_value, clause_holds, formula_holds}
use Rattle.lexleader.proofs.Truth.{value-opposite}

module _ (v : ℕ → Bool) where
  literal-holds : (clause : List ℕ) (code : ℕ) → Memᴰ code clause → literal_value v code ≡ true → clause_holds v clause ≡ true
  unfolding clause_holds
  literal-holds clause code m e = let r = mem-at 0 m in any-in (literal_value v) clause 0 r.0 r.1 (rw r.2 e)

  -- of a literal and its opposite one is true
  opposites-hold : (clause : List ℕ) → has_opposites clause ≡ true → clause_holds v clause ≡ true
  opposites-hold clause e = let p = (opposites-iff clause).0 e in go p.literal p.one p.other (literal_value v p.literal) refl
    where
      go : (code : ℕ) → Memᴰ code clause → Memᴰ (opposite_of code) clause → (b : Bool) → literal_value v code ≡ b → clause_holds v clause ≡ true
      go code one other true q = literal-holds clause code one q
      go code one other false q = literal-holds clause (opposite_of code) other (rw (value-opposite v code, q))

  pub holds-judged : (formula : List (List ℕ)) → formula_holds v (judged formula) ≡ formula_holds v formula
  unfolding formula_holds judged all_of
  holds-judged [] = refl
  holds-judged (c ∷ formula) = go (has_opposites c) refl (holds-judged formula)
    where
      go : (b : Bool) → has_opposites c ≡ b → formula_holds v (judged formula) ≡ formula_holds v formula
          → formula_holds v (cond b (judged formula) (c ∷ judged formula)) ≡ formula_holds v (c ∷ formula)
      go true q rest = rw (opposites-hold c q, rest)
      go false q rest = rw rest

-- the assignment that is to make a clause false: a variable is true where its negation stands in the clause
abbrev against : List ℕ → ℕ → Bool
against clause i = has clause (2 * i + 1)

module _ (clause : List ℕ) where
  only-opposites : ((v : ℕ → Bool) → clause_holds v clause ≡ true) → has_opposites clause ≡ true
  unfolding clause_holds literal_value
  only-opposites always = let r = any_at (literal_value (against clause)) clause 0 (always (against clause)) in go (get_or clause r.0 0) (at_mem 0 clause r.0 r.1) r.2
    where
      -- a negative literal of the clause is false; where a positive one is true, its opposite stands there too
      go : (code : ℕ) → Memᴰ code clause → literal_value (against clause) code ≡ true → has_opposites clause ≡ true
      go code m = by (is_negative code) refl
        where
          by : (b : Bool) → is_negative code ≡ b → cond b (not (against clause (variable_of code))) (against clause (variable_of code)) ≡ true → has_opposites clause ≡ true
          by true q e =
              let own : 2 * variable_of code + 1 ≡ code = omega (arith, eqb-true (code % 2) 1 q) in
              never (sym (ap not (ap (has clause) own ∙ (has-iff clause code).1 m)) ∙ e)
          by false q e =
              let other : 2 * variable_of code + 1 ≡ code + 1 = omega (arith, eqb-false (code % 2) 1 q) in
              (opposites-iff clause).1 (record { literal = code; one = m; other = rw q ((has-iff clause (code + 1)).0 (sym (ap (has clause) other) ∙ e)) })

  pub always-iff : (has_opposites clause ≡ true) ↔ ((v : ℕ → Bool) → clause_holds v clause ≡ true)
  always-iff = (λ e v. opposites-hold v clause e, only-opposites)
