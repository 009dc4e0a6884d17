-- The theorems on symmetric formulas, the made formula, filling in and descent. Assumes nothing.
use mathlib.Core.Path.{◌≡◌, refl, sym, ◌∙◌}
use mathlib.Core.Bool.{Bool, true}
use mathlib.Core.List.{List, ◌++◌, Memᴰ}
use mathlib.Core.Logic.{◌↔◌, ◌⊎◌, inl, inr}
use Prim.Native.Nat.{ℕ, ◌≤◌}
use native.Mathlib.Omega.{arith}
use lib.ListN.{length, take, drop, take-append-drop, length-take}
use Rattle.lists.specs.Tests.{all_of}
use Rattle.lists.proofs.Tests.{all-mem}
use Rattle.store.specs.Literals.{is_literal}
use Rattle.store.specs.Stores.{is_row}
use Rattle.store.proofs.Formed.{row_of}
use Rattle.lexleader.specs.Models.{Model, Satisfiable}
use Rattle.lexleader.specs.Rows.{moved, lowers}
use Rattle.lexleader.specs.Made.{made, made_variables, settings}
use Rattle.lexleader.specs.Kept.{Completes, Kept, Least, Carried, stay, move, Symmetric}
use Rattle.lexleader.specs.Longer.{KeptLonger}
use Rattle.lexleader.specs.Descent.{settled, spent, descend}
use Rattle.lexleader.proofs.Images.{length_moved, formula-moved}
use Rattle.lexleader.proofs.Completed.{completes-iff, longer-iff}
use Rattle.lexleader.proofs.Descent.{ended, carried-to-least}
pub use Rattle.lexleader.proofs.Settings.{setting-at, length-settings}

-- ---- for every list of permutations, symmetries or not

module _ (n : ℕ) (formula rows : List (List ℕ)) (literals : all_of (all_of (is_literal n)) formula ≡ true) (permutations : all_of (is_row n) rows ≡ true) where
  -- only models of the formula are kept
  pub kept-plain : (a t : List Bool) → length a ≡ n → Completes n formula rows a t → Model n formula a
  kept-plain a t size c = ((completes-iff n formula rows literals permutations a t size).0 c).0

  -- the kept models are those that no row makes smaller
  pub kept-iff : (a : List Bool) → Model n formula a → Kept n formula rows a ↔ Least rows a
  kept-iff a m = (
    λ k. ((completes-iff n formula rows literals permutations a k.setting m.size).0 k.completes).1,
    λ least. record {
      plain = m;
      setting = settings rows a;
      completes = (completes-iff n formula rows literals permutations a (settings rows a) m.size).1 (m, least, refl);
    },
  )

  -- "the kept models are exactly those of the longer form, whatever rows are held" (document 02, CR 9)
  pub kept-longer : (a : List Bool) → Kept n formula rows a ↔ KeptLonger n formula rows a
  kept-longer a = (
    λ k. (longer-iff n formula rows literals permutations a).1 (k.plain, (kept-iff a k.plain).0 k),
    λ k. let l = (longer-iff n formula rows literals permutations a).0 k in (kept-iff a l.0).1 l.1,
  )

  -- with one setting of the auxiliaries
  pub one-setting : (a t u : List Bool) → length a ≡ n → Completes n formula rows a t → Completes n formula rows a u → t ≡ u
  one-setting a t u size c d =
      ((completes-iff n formula rows literals permutations a t size).0 c).2 ∙ sym ((completes-iff n formula rows literals permutations a u size).0 d).2

  -- which is that of filling in
  pub filled-completes : (a : List Bool) → Kept n formula rows a → Completes n formula rows a (settings rows a)
  filled-completes a k =
      (completes-iff n formula rows literals permutations a (settings rows a) k.plain.size).1 (k.plain, (kept-iff a k.plain).0 k, refl)

-- ---- for symmetries

module _ {n : ℕ} {formula rows : List (List ℕ)} (s : Symmetric n formula rows) where
  sizes : (row : List ℕ) → Memᴰ row rows → length row ≡ n
  sizes row m = (row_of n row (all-mem (is_row n) m s.permutations)).size

  -- a symmetry takes models to models
  pub model-moved : (row : List ℕ) → Memᴰ row rows → (a : List Bool) → Model n formula a → Model n formula (moved row a)
  model-moved row i a m = record {
    size = length_moved row a ∙ sizes row i;
    holds = formula-moved n row (sizes row i) a formula s.literals (s.symmetries row i) m.holds;
  }

  carried-model : {a b : List Bool} → Carried rows a b → Model n formula a → Model n formula b
  carried-model stay m = m
  carried-model (move row i c) m = carried-model c (model-moved row i _ m)

  least_kept : (a b : List Bool) → Model n formula a → Carried rows a b → Least rows b → Kept n formula rows b
  least_kept a b m c least = (kept-iff n formula rows s.literals s.permutations b (carried-model c m)).1 least

  -- every model is carried to a kept one
  pub carried-to-kept : (a : List Bool) → Model n formula a → (b : List Bool) × Carried rows a b × Kept n formula rows b
  carried-to-kept a m = let r = carried-to-least n rows sizes a m.size in (r.0, r.1, least_kept a r.0 m r.1 r.2)

  -- so the made formula has a model just where the formula has one
  pub satisfiable-iff : Satisfiable n formula ↔ Satisfiable (made_variables n rows) (made n formula rows)
  unfolding made_variables
  satisfiable-iff = (
    λ w. let r = carried-to-kept w.witness w.model in record { witness = r.0 ++ r.2.setting; model = r.2.completes },
    λ w. let a : List Bool = take n w.witness in
        let size : length a ≡ n = simp length-take (omega (arith, w.model.size)) in
        record {
          witness = a;
          model = kept-plain n formula rows s.literals s.permutations a (drop n w.witness) size (rw (take-append-drop n w.witness) w.model);
        },
  )

  -- where a descent from a model settles, there is a kept model
  pub settled-kept : (limit moves : ℕ) (a b : List Bool) → Model n formula a → descend limit rows a ≡ settled moves b
      → Kept n formula rows b × Carried rows a b
  settled-kept limit moves a b m e = let r = ended limit rows a (settled moves b) e in (least_kept a b m r.0 r.1, r.0)

-- ---- descent in itself, for any rows and any assignment

module _ (limit moves : ℕ) (rows : List (List ℕ)) (a b : List Bool) where
  pub settled-least : descend limit rows a ≡ settled moves b → Least rows b
  settled-least e = (ended limit rows a (settled moves b) e).1

  pub spent-limit : descend limit rows a ≡ spent moves b → (moves ≡ limit) × ((row : List ℕ) × Memᴰ row rows × (lowers row b ≡ true))
  spent-limit e = let r = ended limit rows a (spent moves b) e in (r.1, r.0)

  pub moves-within : (descend limit rows a ≡ settled moves b) ⊎ (descend limit rows a ≡ spent moves b) → moves ≤ limit
  moves-within (inl e) = (ended limit rows a (settled moves b) e).2
  moves-within (inr e) = omega (arith, (spent-limit e).0)
