-- The demands on a store: where one fails the store is badly formed, and where all but the last hold the last decides. Assumes nothing.
use mathlib.Core.Path.{◌≡◌}
use mathlib.Core.Bool.{true, false, and-true}
use Prim.Native.Nat.{ℕ, ◌*◌, ◌≤◌, ◌<◌}
use borrow.Author.Tests.{lt-leb, le-leb, leb-true}
use lib.ListN.{length, get_or, take}
use lib.Dec.{lit<}
use Rattle.lists.specs.Tests.{all_of}
use Rattle.lists.proofs.Members.{all-at, all-not}
use Rattle.store.specs.Literals.{is_literal}
use Rattle.store.specs.Stores.{Store, max_variables, max_clauses, max_literals, max_rows, rising, literal_count, held_rows, is_row, demands, is_formed}

module _ (s : Store) where
  -- the count of literals in use
  abbrev pub used : ℕ
  used = literal_count s.counts.clauses s.ends

  fails : (k : ℕ) → k < length (demands s) → get_or (demands s) k true ≡ false → is_formed s ≡ false
  unfolding is_formed
  fails k h e = all-not (λ b. b) (demands s) true k h e

  pub many-variables : max_variables < s.counts.variables → is_formed s ≡ false
  unfolding demands
  many-variables h = fails 0 (lit< tt) (lt-leb _ _ h)

  pub many-clauses : max_clauses < s.counts.clauses → is_formed s ≡ false
  unfolding demands
  many-clauses h = fails 1 (lit< tt) (lt-leb _ _ h)

  pub many-rows : max_rows < s.counts.rows → is_formed s ≡ false
  unfolding demands
  many-rows h = fails 2 (lit< tt) (lt-leb _ _ h)

  pub short-ends : length s.ends < s.counts.clauses → is_formed s ≡ false
  unfolding demands
  short-ends h = fails 3 (lit< tt) (lt-leb _ _ h)

  pub falling-ends : rising 0 (take s.counts.clauses s.ends) ≡ false → is_formed s ≡ false
  unfolding demands
  falling-ends e = fails 4 (lit< tt) e

  pub many-literals : max_literals < used → is_formed s ≡ false
  unfolding demands
  many-literals h = fails 5 (lit< tt) (lt-leb _ _ h)

  pub short-literals : length s.literals < used → is_formed s ≡ false
  unfolding demands
  short-literals h = fails 6 (lit< tt) (lt-leb _ _ h)

  pub bad-literal : all_of (is_literal s.counts.variables) (take used s.literals) ≡ false → is_formed s ≡ false
  unfolding demands
  bad-literal e = fails 7 (lit< tt) e

  pub short-images : length s.images < s.counts.rows * s.counts.variables → is_formed s ≡ false
  unfolding demands
  short-images h = fails 8 (lit< tt) (lt-leb _ _ h)

  -- what is known once every other demand is met
  pub record OtherDemands : Type 0 where
    pub variables-fit : s.counts.variables ≤ max_variables
    pub clauses-fit : s.counts.clauses ≤ max_clauses
    pub rows_fit : s.counts.rows ≤ max_rows
    pub ends-long : s.counts.clauses ≤ length s.ends
    pub ends-rise : rising 0 (take s.counts.clauses s.ends) ≡ true
    pub literals-fit : used ≤ max_literals
    pub literals-long : used ≤ length s.literals
    pub literals-good : all_of (is_literal s.counts.variables) (take used s.literals) ≡ true
    pub images-long : s.counts.rows * s.counts.variables ≤ length s.images

  pub rows-decide : OtherDemands → is_formed s ≡ all_of (is_row s.counts.variables) (held_rows s)
  unfolding is_formed demands all_of held_rows
  rows-decide r =
      simp (
        le-leb _ _ r.variables-fit,
        le-leb _ _ r.clauses-fit,
        le-leb _ _ r.rows_fit,
        le-leb _ _ r.ends-long,
        r.ends-rise,
        le-leb _ _ r.literals-fit,
        le-leb _ _ r.literals-long,
        r.literals-good,
        le-leb _ _ r.images-long,
        and-true,
      )

  -- and what a well formed store meets
  module _ (e : is_formed s ≡ true) where
    pub demand : (k : ℕ) → k < length (demands s) → get_or (demands s) k true ≡ true
    unfolding is_formed
    demand k h = all-at (λ b. b) (demands s) true e k h

    pub rest_of : OtherDemands
    unfolding demands
    rest_of = record {
      variables-fit = leb-true _ _ (demand 0 (lit< tt));
      clauses-fit = leb-true _ _ (demand 1 (lit< tt));
      rows_fit = leb-true _ _ (demand 2 (lit< tt));
      ends-long = leb-true _ _ (demand 3 (lit< tt));
      ends-rise = demand 4 (lit< tt);
      literals-fit = leb-true _ _ (demand 5 (lit< tt));
      literals-long = leb-true _ _ (demand 6 (lit< tt));
      literals-good = demand 7 (lit< tt);
      images-long = leb-true _ _ (demand 8 (lit< tt));
    }

    pub rows-of : all_of (is_row s.counts.variables) (held_rows s) ≡ true
    unfolding demands held_rows
    rows-of = demand 9 (lit< tt)
