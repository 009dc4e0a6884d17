-- The made formula of a well-formed store is small: its variables, its clauses, its clauses' literals. Assumes nothing.
use mathlib.Core.Path.{◌≡◌, sym, ap, ◌∙◌}
use mathlib.Core.Bool.{true}
use mathlib.Core.Logic.{◌⊎◌, inl, inr}
use mathlib.Core.List.{List, [], Memᴰ}
use Prim.Native.Nat.{ℕ, ◌+◌, ◌-◌, ◌≤◌, ◌<◌}
use native.Mathlib.Omega.{arith}
use borrow.Author.Tests.{leb-true}
use lib.ListN.{length, get_or}
use lib.Seq.{length-slice}
use Rattle.lists.specs.Tests.{all_of}
use Rattle.lists.proofs.Cases.{lt-or-le}
use Rattle.lists.proofs.Members.{all-at}
use Rattle.packed.specs.Words.{max_words, word_count}
use Rattle.store.specs.Literals.{is_literal}
use Rattle.store.specs.Stores.{Store, max_literals, literal_count, plain_of, held_rows, is_formed}
use Rattle.store.proofs.Demands.{rows-of}
use Rattle.store.proofs.Formed.{formed, formed-clauses}
use Rattle.store.proofs.Within.{literals-within}
use Rattle.symmetry.proofs.SetLaws.{mem-at}
use Rattle.lexleader.specs.Made.{made_variables}
use Rattle.lexleader.specs.Sizes.{sum_over, auxiliaries_for, clauses_for}
use Rattle.lexleader.specs.Store.{made_of, variables_of, clauses_of}
use Rattle.lexleader.specs.Bounds.{max_made_variables, max_made_clauses}
use Rattle.lexleader.proofs.Within.{made-within}
use Rattle.lexleader.proofs.Bounds.{all-auxiliaries-most, all-clauses-most, is_short, rows_short}
use Rattle.lexleader.proofs.Numbers.{rows-auxiliaries, rows-clauses}
use Rattle.lexleader.proofs.MadeLaws.{added_of, clauses-are, made_plain, made-added}

-- "N = n + the sum of (k-1) over the rows that move something", of every store
pub variables-sum : (s : Store) → variables_of s ≡ s.counts.variables + sum_over auxiliaries_for (held_rows s)
unfolding variables_of made_variables
variables-sum s = omega (arith, rows-auxiliaries (held_rows s))

module _ (s : Store) (well : is_formed s ≡ true) where
  -- "M = m + 6 times that sum", and 1 for a row with one x
  pub clauses-sum : clauses_of s ≡ s.counts.clauses + sum_over clauses_for (held_rows s)
  clauses-sum = clauses-are s well ∙ ap (λ (k : ℕ). s.counts.clauses + k) (rows-clauses (s.counts.variables + 1) (held_rows s))

  -- "N is at most 33,216"
  pub variables-most : variables_of s ≤ max_made_variables
  unfolding variables_of made_variables held_rows
  variables-most =
      let f = formed s well in
      omega (arith, all-auxiliaries-most s.counts.variables s.counts.rows s.images f.variables-fit, f.rows_fit, f.variables-fit)

  -- and an assignment of 1..N is never too long for a comparison
  pub words-most : word_count (variables_of s) ≤ max_words
  unfolding word_count
  words-most = omega (arith, variables-most)

  pub clauses-most : clauses_of s ≤ max_made_clauses
  unfolding held_rows
  clauses-most =
      let f = formed s well in
      omega (
        arith,
        clauses-are s well,
        all-clauses-most (s.counts.variables + 1) s.counts.variables s.counts.rows s.images f.variables-fit,
        f.rows_fit,
        f.clauses-fit,
      )

  -- every literal of the made formula is one of 1..N
  pub store-within : all_of (all_of (is_literal (variables_of s))) (made_of s) ≡ true
  unfolding variables_of made_of
  store-within = made-within s.counts.variables (plain_of s) (held_rows s) (literals-within s (formed s well)) (rows-of s well)

  module _ (clause : List ℕ) (m : Memᴰ clause (made_of s)) where
    pub clause-most : length clause ≤ max_literals
    unfolding clauses_of
    clause-most = let place = mem-at [] m in by place.0 place.1 place.2 (lt-or-le place.0 s.counts.clauses)
      where
        by : (c : ℕ) → c < length (made_of s) → get_or (made_of s) c [] ≡ clause → (c < s.counts.clauses) ⊎ (s.counts.clauses ≤ c) → length clause ≤ max_literals
        by c inside is (inl h) =
            let f = formed-clauses s (formed s well) in
            let size = length-slice (literal_count c s.ends) (literal_count (c + 1) s.ends) s.literals (f.within c h) in
            omega (arith, ap length (sym is ∙ made_plain s well c h), size, f.literals-fit c h)
        by c inside is (inr h) =
            let k : ℕ = c - s.counts.clauses in
            let short = leb-true (length (get_or (added_of s well) k [])) 4 (all-at is_short (added_of s well) [] (rows_short (s.counts.variables + 1) (held_rows s)) k (omega (arith, clauses-are s well))) in
            omega (arith, ap length (sym is ∙ made-added s well c h), short)
