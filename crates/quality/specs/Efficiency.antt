-- The efficiency of symmetry breaking (document 01, "Quality figure and program"; document 02, CR 4). Assumes nothing.
use Rattle.std.specs.Prelude.{ℕ, ◌-◌, ◌*◌, Bool, not, ◌&&◌, eqb, leb}
use Rattle.quality.specs.Rounding.{nearest_of}

abbrev pub max_labelled : ℕ
max_labelled = 1000000000000

-- the opposite of 14: "Not unlabelled ≤ allowed ≤ labelled, or labelled = unlabelled, or labelled over 10^12"
unfoldable pub has_efficiency : ℕ → ℕ → ℕ → Bool
has_efficiency labelled unlabelled allowed =
    leb unlabelled allowed && leb allowed labelled && not (eqb labelled unlabelled) && leb labelled max_labelled

-- "10,000 × (labelled - allowed) / (labelled - unlabelled)", in hundredths of a percent: "the nearest .., an exact half going to the even one"
unfoldable pub efficiency_of : ℕ → ℕ → ℕ → ℕ
efficiency_of labelled unlabelled allowed = nearest_of (10000 * (labelled - allowed)) (labelled - unlabelled)
