-- What the type of a store's clauses gives. Assumes nothing.
use mathlib.Core.Path.{◌≡◌}
use mathlib.Core.Bool.{true}
use mathlib.Core.List.{[]}
use Prim.Native.Nat.{ℕ, ◌<◌}
use lib.ListN.{length, get_or}
use Rattle.lists.specs.Tests.{all_of}
use Rattle.store.specs.Held.{formula_of}
use Rattle.store.specs.Literals.{is_literal}
use Rattle.store.specs.Stores.{clause_at, max_variables}
use Rattle.store.specs.declared.clauses.Clauses.{Clauses}
use Rattle.store.proofs.Cuts.{clauses-count, clause-is}
use Rattle.store.proofs.Within.{clause-good}

module _ (s : Clauses) where
  pub formula-length : length (formula_of s) ≡ s.count
  formula-length = clauses-count s.literals.now s.ends.now s.count s.formed.clauses.known

  module _ (c : ℕ) (h : c < s.count) where
    pub its-clause : get_or (formula_of s) c [] ≡ clause_at s.literals.now s.ends.now c
    its-clause = clause-is s.literals.now s.ends.now s.count c s.formed.clauses.known h

    pub its-literals : all_of (is_literal max_variables) (clause_at s.literals.now s.ends.now c) ≡ true
    its-literals = clause-good max_variables s.count s.literals.now s.ends.now s.formed c h
