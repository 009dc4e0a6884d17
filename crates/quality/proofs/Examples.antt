-- Halves and thirds, figures at the limit, and the edges of 14, by computation on the definitions. Assumes nothing.
use mathlib.Core.Path.{◌≡◌, refl}
use mathlib.Core.Bool.{true, false}
use mathlib.Core.List.{[], ◌∷◌}
use Rattle.quality.specs.Rounding.{nearest_of}
use Rattle.quality.specs.Efficiency.{has_efficiency, efficiency_of}

quotients : nearest_of 1 2 ∷ nearest_of 3 2 ∷ nearest_of 5 2 ∷ nearest_of 6 2 ∷ nearest_of 1 3 ∷ nearest_of 2 3 ∷ [] ≡ 0 ∷ 2 ∷ 2 ∷ 3 ∷ 0 ∷ 1 ∷ []
unfolding nearest_of
quotients = refl

-- exactly 10,000; then 9,999.5 and 9,998.5, a little less than the one and a little more than the other
figures :
    efficiency_of 1000000000000 0 0 ∷ efficiency_of 1000000000000 0 50000000 ∷ efficiency_of 1000000000000 0 150000000
    ∷ efficiency_of 1000000000000 0 50000001 ∷ efficiency_of 1000000000000 0 149999999 ∷ []
    ≡ 10000 ∷ 10000 ∷ 9998 ∷ 9999 ∷ 9999 ∷ []
unfolding efficiency_of nearest_of
figures = refl

edges :
    has_efficiency 1000000000000 0 0 ∷ has_efficiency 1000000000001 0 0 ∷ has_efficiency 9 3 2 ∷ has_efficiency 9 3 10 ∷ has_efficiency 7 7 7 ∷ []
    ≡ true ∷ false ∷ false ∷ false ∷ false ∷ []
unfolding has_efficiency
edges = refl
