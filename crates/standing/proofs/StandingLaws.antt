-- 20 and 21: one law for each way out of the test, and what it gives. Assumes nothing.
use mathlib.Core.Path.{◌≡◌, refl, sym, ap, ◌∙◌}
use mathlib.Core.Bool.{Bool, true, false, cond, not}
use Prim.Native.Nat.{ℕ}
use native.Mathlib.Omega.{arith}
use Rattle.lists.proofs.Cases.{and_l, and_r, and_both}
use Rattle.std.specs.Prelude.{Result, Ok, Err}
use Rattle.store.specs.Stores.{Store, is_formed, plain_of}
use Rattle.store.specs.declared.refusal.Refusal.{Refusal}
use Rattle.keys.specs.Keys.{right_keys}
use Rattle.standing.specs.Keyed.{Keyed, with_keys, well_formed, standing_of}

module _ (s : Keyed) where
  -- the store's form, and right keys
  pub not-formed : is_formed s.store ≡ false → well_formed s ≡ false
  unfolding well_formed
  not-formed e = rw e

  pub keys-decide : is_formed s.store ≡ true → well_formed s ≡ right_keys (plain_of s.store) s.keys
  unfolding well_formed
  keys-decide e = rw e

  pub well-formed : is_formed s.store ≡ true → right_keys (plain_of s.store) s.keys ≡ true → well_formed s ≡ true
  unfolding well_formed
  well-formed e f = and_both e f

  pub its-form : well_formed s ≡ true → is_formed s.store ≡ true
  unfolding well_formed
  its-form e = and_l (is_formed s.store) (right_keys (plain_of s.store) s.keys) e

  pub its-keys : well_formed s ≡ true → right_keys (plain_of s.store) s.keys ≡ true
  unfolding well_formed
  its-keys e = and_r (is_formed s.store) (right_keys (plain_of s.store) s.keys) e

  -- what is found once the store is open
  abbrev open_standing : Bool → Result Store Refusal
  open_standing formed = cond (not formed) (Err Refusal.BadlyFormed) (Ok s.store)

  by-open : (b : Bool) → s.store.counts.is_open ≡ b → standing_of s ≡ cond (not b) (Err Refusal.NotOpen) (open_standing (well_formed s))
  unfolding standing_of
  by-open b e = ap (λ (c : Bool). cond (not c) (Err Refusal.NotOpen) (open_standing (well_formed s))) e

  pub not-open : s.store.counts.is_open ≡ false → standing_of s ≡ Err Refusal.NotOpen
  not-open e = by-open false e

  pub badly-formed : s.store.counts.is_open ≡ true → well_formed s ≡ false → standing_of s ≡ Err Refusal.BadlyFormed
  badly-formed e f = by-open true e ∙ ap open_standing f

  pub ready_of : s.store.counts.is_open ≡ true → well_formed s ≡ true → standing_of s ≡ Ok s.store
  ready_of e f = by-open true e ∙ ap open_standing f

  pub ready : standing_of s ≡ Ok s.store → (s.store.counts.is_open ≡ true) × (well_formed s ≡ true)
  unfolding standing_of
  ready e = go s.store.counts.is_open refl (well_formed s) refl e
    where
      go : (a : Bool) → s.store.counts.is_open ≡ a → (b : Bool) → well_formed s ≡ b
          → cond (not a) (Err Refusal.NotOpen) (open_standing b) ≡ Ok s.store → (s.store.counts.is_open ≡ true) × (well_formed s ≡ true)
      go true p true q k = (p, q)
      go true p false q k = let z : ◌≡◌ {A = ℕ} 0 1 = cc in absurd (omega arith)
      go false p b q k = let z : ◌≡◌ {A = ℕ} 0 1 = cc in absurd (omega arith)

  pub ready-form : standing_of s ≡ Ok s.store → is_formed s.store ≡ true
  ready-form e = its-form (ready e).1

  -- a formed store with the same clauses is well formed with the same keys
  pub same-clauses : (t : Store) → plain_of t ≡ plain_of s.store → well_formed s ≡ true → is_formed t ≡ true → well_formed (with_keys t s.keys) ≡ true
  unfolding well_formed
  same-clauses t e well form = and_both form (rw e (its-keys well))

-- the store that is admitted is the one lent
pub admitted-is : (s : Keyed) {t : Store} → Ok t ≡ standing_of s → t ≡ s.store
unfolding standing_of
admitted-is s {t = t} e = go s.store.counts.is_open (well_formed s) e
  where
    go : (a b : Bool) → ◌≡◌ {A = Result Store Refusal} (Ok t) (cond (not a) (Err Refusal.NotOpen) (cond (not b) (Err Refusal.BadlyFormed) (Ok s.store))) → t ≡ s.store
    go true true k = cc
    go true false k = let z : ◌≡◌ {A = ℕ} 0 1 = cc in absurd (omega arith)
    go false b k = let z : ◌≡◌ {A = ℕ} 0 1 = cc in absurd (omega arith)

-- which stands as it has to
pub stands : (s : Keyed) {t : Store} → Ok t ≡ standing_of s → standing_of s ≡ Ok s.store
stands s e = sym e ∙ ap Ok (admitted-is s e)
