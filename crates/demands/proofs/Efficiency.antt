-- CR 4: the figure that the call answers is the nearest hundredth of a percent, no other number is, and none is past 100 percent. Assumes nothing.
use mathlib.Core.Path.{◌≡◌, refl, subst}
use mathlib.Core.Bool.{Bool, true, false, cond}
use Prim.Native.Nat.{ℕ, ◌-◌, ◌*◌, ◌<◌}
use native.Mathlib.Omega.{arith}
use Rattle.quality.specs.Efficiency.{has_efficiency, efficiency_of}
use Rattle.quality.proofs.Rounding.{is-nearest, only-nearest, nearest-at-most}
use Rattle.quality.proofs.Laws.{counts}
use Rattle.store.specs.Refusals.{done, refused}
use Rattle.calls.specs.Calls.{efficiency_says}
use Rattle.demands.specs.Efficiency.{TheNearest}

module _ (labelled unlabelled allowed : ℕ) where
  of-counts : has_efficiency labelled unlabelled allowed ≡ true → TheNearest labelled unlabelled allowed (efficiency_of labelled unlabelled allowed)
  unfolding efficiency_of
  of-counts has =
      let c = counts labelled unlabelled allowed has in
      let divisor : 0 < labelled - unlabelled = omega (arith, c) in
      let near = is-nearest (10000 * (labelled - allowed)) (labelled - unlabelled) divisor in
      record { nearest = near; only = only-nearest _ _ divisor; at_most = nearest-at-most _ _ divisor (omega (arith, c)) near }

  pub the-nearest : (figure : ℕ) → efficiency_says labelled unlabelled allowed ≡ done figure → TheNearest labelled unlabelled allowed figure
  unfolding efficiency_says
  the-nearest figure said = by (has_efficiency labelled unlabelled allowed) refl said
    where
      by : (has : Bool) → has_efficiency labelled unlabelled allowed ≡ has
          → cond has (done (efficiency_of labelled unlabelled allowed)) (refused 14 0) ≡ done figure → TheNearest labelled unlabelled allowed figure
      by true e q = let z : efficiency_of labelled unlabelled allowed ≡ figure = cc in subst (TheNearest labelled unlabelled allowed) z (of-counts e)
      by false e q = let z : ◌≡◌ {A = ℕ} 0 1 = cc in absurd (omega arith)
