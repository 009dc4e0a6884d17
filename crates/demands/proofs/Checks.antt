-- The checking call (document 01): it "answers yes, or the first clause of the made formula that an assignment of 1..N makes false". Yes is said exactly for
-- the models of the made formula. Assumes nothing.
use Rattle.std.proofs.Common.{Result, Ok, Err}
use Rattle.store.specs.declared.refusal.Refusal.{Refusal}
use mathlib.Core.Path.{◌≡◌, refl, sym, ap, ◌∙◌}
use mathlib.Core.Bool.{Bool, true, false, cond}
use mathlib.Core.List.{List}
use mathlib.Core.Logic.{◌↔◌}
use Prim.Native.Nat.{ℕ, ◌+◌}
use native.Mathlib.Omega.{arith}
use lib.ListN.{length}
use Rattle.lists.proofs.TableLaws.{length-table}
use Rattle.packed.specs.Words.{bits_of, bit_at, is_assignment}
use Rattle.packed.specs.Order.{value_of}
use Rattle.store.specs.Refusals.{done, refused}
use Rattle.store.specs.Stores.{Store}
use Rattle.standing.specs.Keyed.{Keyed, well_formed, standing_of}
use Rattle.standing.proofs.StandingLaws.{ready_of, ready, stands}
use Rattle.lexleader.specs.Models.{Model}
use Rattle.lexleader.specs.Store.{made_of, variables_of}
use Rattle.checking.specs.Checking.{Verdict, yes, false_at, first_false}
use Rattle.checking.proofs.VerdictLaws.{yes_iff, FirstFalse, false-at, at-false}
use Rattle.calls.specs.Calls.{on_store, check_says}

module _ (s : Keyed) (words : List ℕ) where
  -- the assignment that the words hold
  abbrev pub bits : List Bool
  bits = bits_of (variables_of s.store) words

  -- what may be checked: an open, well-formed store, and words that are an assignment of 1..N
  pub record Checkable : Type 0 where
    pub opened : s.store.counts.is_open ≡ true
    pub formed : well_formed s ≡ true
    pub form : is_assignment (variables_of s.store) words ≡ true

  said-iff : (verdict : Verdict) → (check_says s words ≡ done verdict) ↔ (Checkable × (first_false s.store words ≡ verdict))
  unfolding check_says
  said-iff verdict = (
    λ e. by (standing_of s) refl (is_assignment (variables_of s.store) words) refl e,
    λ c. rw (ready_of s c.0.opened c.0.formed, c.0.form) (ap done c.1),
  )
    where
      by : (standing : Result Store Refusal) → standing_of s ≡ standing → (form : Bool) → is_assignment (variables_of s.store) words ≡ form
          → on_store standing (cond form (done (first_false s.store words)) (refused 12 0)) ≡ done verdict → Checkable × (first_false s.store words ≡ verdict)
      by (Ok u) p true q e = (record { opened = (ready s (stands s (sym p))).0; formed = (ready s (stands s (sym p))).1; form = q }, (cc))
      by (Ok u) p false q e = let z : ◌≡◌ {A = ℕ} 0 1 = cc in absurd (omega arith)
      by (Err r) p form q e = let z : ◌≡◌ {A = ℕ} 0 1 = cc in absurd (omega arith)

  length-bits : length bits ≡ variables_of s.store
  unfolding bits_of
  length-bits = length-table (variables_of s.store) (bit_at words)

  -- yes is said exactly for the models of the made formula
  pub yes-is-model : (check_says s words ≡ done yes) ↔ (Checkable × Model (variables_of s.store) (made_of s.store) bits)
  unfolding first_false
  yes-is-model = (
    λ e. let c = (said-iff yes).0 e in (c.0, record { size = length-bits; holds = (yes_iff (value_of bits) 1 (made_of s.store)).0 c.1 }),
    λ m. (said-iff yes).1 (m.0, (yes_iff (value_of bits) 1 (made_of s.store)).1 m.1.holds),
  )

  -- a number is said exactly where it is that of the first false clause, counted from 1
  pub number-is-first : (q : ℕ) → (check_says s words ≡ done (false_at q)) ↔ (Checkable × ((k : ℕ) × (1 + k ≡ q) × FirstFalse (value_of bits) (made_of s.store) k))
  unfolding first_false
  number-is-first q = (
    λ e. let c = (said-iff (false_at q)).0 e in (c.0, false-at (value_of bits) 1 q (made_of s.store) c.1),
    λ f. (said-iff (false_at q)).1 (f.0, at-false (value_of bits) 1 f.1.0 (made_of s.store) f.1.2 ∙ ap false_at f.1.1),
  )
