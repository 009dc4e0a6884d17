-- The order of assignments (document 01): "A < B when A has 0 and B has 1 at the variable at which two assignments first differ".
-- Assumes nothing.
use Rattle.std.specs.Prelude.{◌≡◌, ◌<◌, ℕ, ◌+◌, ◌-◌, ◌*◌, Bool, false, not, cond, ◌&&◌, ◌||◌, List, [], ◌∷◌, length, get_or, eqb}
use Rattle.std.specs.Bool.{beq}
use Rattle.std.specs.Borrow.{Bor}
use Rattle.packed.specs.Words.{bits_of}

-- the value of variable i
abbrev pub value_of : List Bool → ℕ → Bool
value_of a i = get_or a (i - 1) false

-- the least variable, counted from i, at which two assignments of one length differ; 0 where they are equal
unfoldable pub difference_from : ℕ → List Bool → List Bool → ℕ
difference_from i [] b = 0
difference_from i (x ∷ a) [] = 0
difference_from i (x ∷ a) (y ∷ b) = cond (beq x y) (difference_from (i + 1) a b) i

abbrev pub first_difference : List Bool → List Bool → ℕ
first_difference a b = difference_from 1 a b

-- a < b. `less-is` (proofs/OrderLaws.antt) says that this is the paper's sentence.
unfoldable pub less : List Bool → List Bool → Bool
less [] b = false
less (x ∷ a) [] = false
less (x ∷ a) (y ∷ b) = not x && y || beq x y && less a b

-- all the bits of a list of words of any value
abbrev pub all_bits : List ℕ → List Bool
all_bits ws = bits_of (64 * length ws) ws

-- a lent slice: where it lies, and its words
abbrev pub part : Bor (List ℕ) → (ℕ × ℕ) × List ℕ
part x = (x.ref_ptr, x.now)

-- "the lesser of two lent assignments, a part of the caller's own: the first when equal, the empty beginning of the first when lengths differ"
unfoldable pub lesser_of : (ℕ × ℕ) × List ℕ → (ℕ × ℕ) × List ℕ → (ℕ × ℕ) × List ℕ
lesser_of a b = cond (eqb (length a.1) (length b.1)) (cond (less (all_bits b.1) (all_bits a.1)) b a) (a.0, [])

-- the first place at which two lists of words of one length differ
pub record FirstUnequal (a b : List ℕ) (i : ℕ) : Type 0 where
  pub within : i < length a
  pub before : (k : ℕ) → k < i → get_or a k 0 ≡ get_or b k 0
  pub here : get_or a i 0 ≡ get_or b i 0 → ⊥
