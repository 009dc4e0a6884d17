-- The rows in an images slice: row r and those after it, what lies past them, and a row more behind them. Assumes nothing.
use mathlib.Core.Path.{◌≡◌, refl, sym, ap, ◌∙◌}
use mathlib.Core.Bool.{true, false}
use mathlib.Core.List.{List, [], ◌∷◌, ◌++◌}
use Prim.Native.Nat.{ℕ, zero, suc, ◌+◌, ◌-◌, ◌*◌, ◌≤◌, ◌<◌}
use native.Mathlib.Nat.{mul-le-mul_right}
use native.Mathlib.Omega.{arith}
use lib.ListN.{length, take, drop, length-append, length-drop, take-append-drop}
use lib.Seq.{drop-drop, take-append-le, drop-append-le, take_all, length-take-le}
use Rattle.lists.specs.Tests.{all_of}
use Rattle.lists.proofs.Cases.{and_l, and_r}
use Rattle.store.specs.Stores.{rows_of, row_at, rows_from, appended, is_row}

-- `&images[at..to]` is row r, where at is r·n and to is n more
pub part-is : (n r : ℕ) (images : List ℕ) → take (r * n + n - r * n) (drop (r * n) images) ≡ row_at n r images
part-is n r images =
    let size : r * n + n - r * n ≡ n = omega arith in
    rw size

-- ---- from row r on

module _ (n k : ℕ) (images : List ℕ) where
  pub from_first : rows_from n k images 0 ≡ rows_of n k images
  from_first =
      let all : k - 0 ≡ k = omega arith in
      let none : 0 * n ≡ 0 = omega arith in
      rw (all, none)

  module _ (r : ℕ) where
    pub from-here : r < k → rows_from n k images r ≡ row_at n r images ∷ rows_from n k images (r + 1)
    unfolding rows_of
    from-here h =
        let more : k - r ≡ suc (k - (r + 1)) = omega arith in
        let on : r * n + n ≡ (r + 1) * n = omega arith in
        rw (more, drop-drop n (r * n) images, on)

    pub from_end : k ≤ r → rows_from n k images r ≡ []
    unfolding rows_of
    from_end h =
        let none : k - r ≡ 0 = omega arith in
        rw none

    -- whether all from row r on are permutations
    pub good-here : r < k → is_row n (row_at n r images) ≡ true → all_of (is_row n) (rows_from n k images r) ≡ all_of (is_row n) (rows_from n k images (r + 1))
    unfolding all_of
    good-here h e = rw (from-here h, e)

    pub bad-here : r < k → is_row n (row_at n r images) ≡ false → all_of (is_row n) (rows_from n k images r) ≡ false
    unfolding all_of
    bad-here h e = rw (from-here h, e)

    pub good-end : k ≤ r → all_of (is_row n) (rows_from n k images r) ≡ true
    unfolding all_of
    good-end h = rw (from_end h)

-- there is room for row r, and it has n images
module _ (n k : ℕ) (images : List ℕ) (fits : k * n ≤ length images) (r : ℕ) (h : r < k) where
  pub row_room : r * n + n ≤ length images
  row_room = let more : r + 1 ≤ k = omega arith in omega (arith, mul-le-mul_right n more)

  pub row-size : length (row_at n r images) ≡ n
  row-size = length-take-le n (drop (r * n) images) (omega (arith, row_room, length-drop (r * n) images))

pub rows_at : (n k : ℕ) (images : List ℕ) → all_of (is_row n) (rows_of n k images) ≡ true → (r : ℕ) → r < k → is_row n (row_at n r images) ≡ true
unfolding rows_of all_of
rows_at n zero images e r h = absurd (omega arith)
rows_at n (suc k) images e zero h =
    let z : 0 * n ≡ 0 = omega arith in
    rw z (and_l (is_row n (take n images)) (all_of (is_row n) (rows_of n k (drop n images))) e)
rows_at n (suc k) images e (suc r) h =
    let z : suc r * n ≡ n + r * n = omega arith in
    rw (z, ← drop-drop (r * n) n images) (rows_at n k (drop n images) (and_r (is_row n (take n images)) (all_of (is_row n) (rows_of n k (drop n images))) e) r (omega arith))

-- ---- what lies past the rows is not looked at

pub rows_append : (n k : ℕ) (a b : List ℕ) → length a ≡ k * n → rows_of n k (a ++ b) ≡ rows_of n k a
unfolding rows_of
rows_append n zero a b e = refl
rows_append n (suc k) a b e =
    let long : n ≤ length a = omega arith in
    rw (take-append-le n a b long, drop-append-le n a b long)
    (ap (λ (rows : List (List ℕ)). take n a ∷ rows) (rows_append n k (drop n a) b (length-drop n a ∙ omega arith)))

pub rows_take : (n k : ℕ) (images : List ℕ) → k * n ≤ length images → rows_of n k (take (k * n) images) ≡ rows_of n k images
rows_take n k images h =
    sym (rows_append n k (take (k * n) images) (drop (k * n) images) (length-take-le (k * n) images h))
    ∙ ap (rows_of n k) (take-append-drop (k * n) images)

-- ---- how many there are, and the first of them

pub rows-count : (n k : ℕ) (images : List ℕ) → length (rows_of n k images) ≡ k
unfolding rows_of
rows-count n zero images = refl
rows-count n (suc k) images = ap suc (rows-count n k (drop n images))

pub rows-fewer : (n j k : ℕ) (images : List ℕ) → j ≤ k → rows_of n j images ≡ take j (rows_of n k images)
unfolding rows_of
rows-fewer n zero k images h = refl
rows-fewer n (suc j) zero images h = absurd (omega arith)
rows-fewer n (suc j) (suc k) images h = ap (λ (rows : List (List ℕ)). take n images ∷ rows) (rows-fewer n j k (drop n images) (omega arith))

-- ---- a row more

rows_snoc : (n k : ℕ) (a row : List ℕ) → length a ≡ k * n → length row ≡ n → rows_of n (suc k) (a ++ row) ≡ rows_of n k a ++ (row ∷ [])
unfolding rows_of
rows_snoc n zero [] row e l = rw (take_all n row (omega arith))
rows_snoc n zero (x ∷ a) row e l = absurd (omega arith)
rows_snoc n (suc k) a row e l =
    let long : n ≤ length a = omega arith in
    rw (take-append-le n a row long, drop-append-le n a row long)
    (ap (λ (rows : List (List ℕ)). take n a ∷ rows) (rows_snoc n k (drop n a) row (length-drop n a ∙ omega arith) l))

module _ (n k : ℕ) (images row : List ℕ) (size : length row ≡ n) (room : k * n + n ≤ length images) where
  front : length (take (k * n) images) ≡ k * n
  front = length-take-le (k * n) images (omega arith)

  pub appended-rows : rows_of n (k + 1) (appended n k row images) ≡ rows_of n k images ++ (row ∷ [])
  appended-rows =
      let a : List ℕ = take (k * n) images in
      let more : k + 1 ≡ suc k = omega arith in
      ap (λ (r : ℕ). rows_of n r (a ++ row ++ drop ((k + 1) * n) images)) more
      ∙ rows_append n (suc k) (a ++ row) (drop ((k + 1) * n) images) (length-append a row ∙ omega (arith, front))
      ∙ rows_snoc n k a row front size
      ∙ ap (λ (rows : List (List ℕ)). rows ++ (row ∷ [])) (rows_take n k images (omega arith))

  pub appended-length : length (appended n k row images) ≡ length images
  appended-length = simp (length-append, length-drop) (omega (arith, front))
