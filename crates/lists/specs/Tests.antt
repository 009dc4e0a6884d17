-- Tests over the elements of a list, and lists of numbers read as sets. Assumes nothing.
use Rattle.std.specs.Prelude.{ℕ, Bool, true, false, not, ◌&&◌, ◌||◌, List, [], ◌∷◌, eqb}

-- some element passes the test
unfoldable pub any_of : {A : Type 0} → (A → Bool) → List A → Bool
any_of p [] = false
any_of p (x ∷ l) = p x || any_of p l

-- every element passes it
unfoldable pub all_of : {A : Type 0} → (A → Bool) → List A → Bool
all_of p [] = true
all_of p (x ∷ l) = p x && all_of p l

-- x is an element of l
abbrev pub has : List ℕ → ℕ → Bool
has l x = any_of (λ y. eqb y x) l

-- no number stands twice in the list
unfoldable pub distinct : List ℕ → Bool
distinct [] = true
distinct (x ∷ l) = not (has l x) && distinct l
