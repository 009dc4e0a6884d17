-- Document 02, CR 10: `FiguresAhead` holds for every store. Assumes nothing.
use Rattle.std.proofs.Common.{Result, Ok, Err}
use Rattle.store.specs.declared.refusal.Refusal.{Refusal}
use mathlib.Core.Path.{◌≡◌, refl, sym, ap, ◌∙◌}
use mathlib.Core.Bool.{true}
use mathlib.Core.Logic.{◌⊎◌, inl, inr, ◌↔◌}
use Prim.Native.Nat.{ℕ, ◌<◌}
use native.Mathlib.Omega.{arith}
use lib.ListN.{length}
use Rattle.lists.specs.Sums.{sum_of}
use Rattle.lists.proofs.Cases.{never}
use Rattle.store.specs.Refusals.{done, refused}
use Rattle.store.specs.Stores.{Store, plain_of, is_formed}
use Rattle.standing.specs.Keyed.{Keyed, well_formed, standing_of}
use Rattle.standing.proofs.StandingLaws.{ready_of, ready, its-form, stands}
use Rattle.lexleader.specs.Store.{variables_of, clauses_of}
use Rattle.render.specs.Text.{header_line}
use Rattle.emit.specs.Emit.{header_of}
use Rattle.emit.proofs.Bounds.{header-most}
use Rattle.measure.specs.Figures.{figures_of}
use Rattle.measure.specs.declared.Figures.{Figures}
use Rattle.measure.proofs.Bounds.{variables-within, clauses-within, literals-within, bytes-within}
use Rattle.calls.specs.Calls.{on_store, figures_says, clause_says}
use Rattle.demands.specs.Reasons.{comes_first, not_open, badly_formed, clause_reasons}
use Rattle.demands.specs.Figures.{spaces_in, EqualsWriting, Bounded, FiguresAhead}
use Rattle.demands.proofs.Demand2.{header-written, text-written}
use Rattle.demands.proofs.Demand1.{demand-1}
use Rattle.demands.proofs.Spaces.{in-text}

module _ (s : Keyed) where
  -- where figures are given, the store is open and well formed, and they are those of the made formula
  pub record Given (f : Figures) : Type 0 where
    pub opened : s.store.counts.is_open ≡ true
    pub formed : well_formed s ≡ true
    pub are : f ≡ figures_of s.store

  given_by : (f : Figures) → figures_says s ≡ done f → Given f
  unfolding figures_says
  given_by f e = by (standing_of s) refl e
    where
      by : (standing : Result Store Refusal) → standing_of s ≡ standing → on_store standing (done (figures_of s.store)) ≡ done f → Given f
      by (Ok u) p q = record { opened = (ready s (stands s (sym p))).0; formed = (ready s (stands s (sym p))).1; are = (cc) }
      by (Err r) p q = let z : ◌≡◌ {A = ℕ} 0 1 = cc in absurd (omega arith)

  given_to : (s.store.counts.is_open ≡ true) × (well_formed s ≡ true) → (f : Figures) × (figures_says s ≡ done f)
  unfolding figures_says
  given_to (opened, formed) = (figures_of s.store, rw (ready_of s opened formed))

  module _ (opened : s.store.counts.is_open ≡ true) (formed : well_formed s ≡ true) where
    standing : standing_of s ≡ Ok s.store
    standing = ready_of s opened formed

    well : is_formed s.store ≡ true
    well = its-form s formed

    -- 13, where the store is open and well formed
    no-clause : (q room : ℕ) → (clause_says s q room ≡ refused 13 0) ↔ ((q ≡ 0) ⊎ (clauses_of s.store < q))
    unfolding comes_first
    no-clause q room = (λ e. first ((demand-1.clause-refuses s q room 13 0).0 e), λ h. (demand-1.clause-refuses s q room 13 0).1 (inr (open-not, inr (good-not, inl (refl, (h, refl))))))
      where
        open-not : (p : ℕ) → (not_open s.store).at p → ⊥
        open-not p h = never (sym h.0 ∙ opened)

        good-not : (p : ℕ) → (badly_formed s).at p → ⊥
        good-not p h = never (sym h.0 ∙ formed)

        first : comes_first (clause_reasons s q room) 13 0 → (q ≡ 0) ⊎ (clauses_of s.store < q)
        first (inl h) = absurd (omega (arith, h.0))
        first (inr (a, inl h)) = absurd (omega (arith, h.0))
        first (inr (a, inr (b, inl h))) = h.1.0
        first (inr (a, inr (b, inr (d, inl h)))) = absurd (omega (arith, h.0))
        first (inr (a, inr (b, inr (d, inr (e, h))))) = absurd h

    header_is : header_of s.store ≡ header_line (variables_of s.store) (clauses_of s.store)
    unfolding header_of
    header_is = refl

    equals : EqualsWriting s (figures_of s.store)
    unfolding figures_of
    equals = record {
      header = λ buffer room. header-written s standing buffer (omega (arith, header-most s.store well)) ∙ header_is;
      clauses = λ q room. no-clause q room;
      literals = refl;
      spaces = λ buffer room buffers rooms. ap spaces_in (text-written s standing formed buffer room buffers rooms) ∙ in-text s.store;
      bytes = λ buffer room buffers rooms. ap length (sym (text-written s standing formed buffer room buffers rooms));
    }

    bounds : Bounded s.store.counts.variables s.store.counts.clauses s.store.counts.rows (sum_of length (plain_of s.store)) (figures_of s.store)
    bounds = record {
      variables = variables-within s.store well;
      clauses = clauses-within s.store well;
      literals = literals-within s.store well;
      bytes = bytes-within s.store well;
    }

pub figures-ahead : (s : Keyed) → FiguresAhead s
figures-ahead s = record {
  given = (λ g. let k = given_by s g.0 g.1 in (k.opened, k.formed), given_to s);
  equal = λ f e. let g = given_by s f e in rw g.are (equals s g.opened g.formed);
  bounded = λ f e. let g = given_by s f e in rw g.are (bounds s g.opened g.formed);
}
