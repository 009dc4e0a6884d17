-- Document 02, CR 4: "The figure is now the nearest hundredth of a percent, an exact half going to the even one." `the-nearest` (proofs/Efficiency.antt) says that
-- `TheNearest` holds of every three counts that the call does not refuse and of the figure that it answers. Assumes nothing.
use Rattle.std.specs.Prelude.{◌≡◌, ℕ, ◌-◌, ◌*◌, ◌≤◌}
use Rattle.quality.specs.Rounding.{Nearest}

module _ (labelled unlabelled allowed : ℕ) where
  -- a number is the nearest to 10,000 × (labelled - allowed) / (labelled - unlabelled): twice the distance is at most the divisor, and where it is exactly the divisor
  -- the number is even
  abbrev pub NearestHundredth : ℕ → Type 0
  NearestHundredth = Nearest (10000 * (labelled - allowed)) (labelled - unlabelled)

  pub record TheNearest (figure : ℕ) : Type 0 where
    pub nearest : NearestHundredth figure
    pub only : (other : ℕ) → NearestHundredth other → other ≡ figure
    -- no figure is rounded past 100 percent
    pub at_most : figure ≤ 10000
