-- The image of a literal: its variable and its sign, and that a row sends different literals to different literals. Assumes nothing.
use mathlib.Core.Path.{◌≡◌, refl, sym, ap}
use mathlib.Core.Bool.{Bool, true, false, cond}
use mathlib.Core.List.Memᴰ
use mathlib.Core.List.{List, Memᴰ}
use Prim.Native.Nat.{ℕ, ◌+◌, ◌-◌, ◌/◌, ◌%◌}
use native.Mathlib.Omega.{arith}
use borrow.Author.Tests.{eqb-true, eqb-false}
use lib.ListN.{get_or}
use Rattle.lists.specs.Tests.{all_of}
use Rattle.lists.proofs.Tests.{all-mem}
use Rattle.store.specs.Literals.{variable_of, is_negative, opposite_of, is_literal}
use Rattle.store.proofs.FormLaws.{opposite-is, literal-low, literal-high, literal-within}
use Rattle.store.proofs.Formed.{Row}
use Rattle.symmetry.specs.Sets.{SameSet}
use Rattle.symmetry.specs.Symmetry.{image_of, clause_image}

module _ (row : List ℕ) (code : ℕ) where
  pub image-of-negative : is_negative code ≡ true → image_of row code ≡ opposite_of (get_or row (variable_of code - 1) 0)
  unfolding image_of
  image-of-negative e = rw e

  pub image-of-positive : is_negative code ≡ false → image_of row code ≡ get_or row (variable_of code - 1) 0
  unfolding image_of
  image-of-positive e = rw e

-- a literal or its opposite, by a sign: the variable is kept, and the signs add up
pub turned : (code a : ℕ) → let r = cond (is_negative code) (opposite_of a) a in
    (r / 2 ≡ a / 2) × ((r + code + a) % 2 ≡ 0)
turned code a = go (is_negative code) refl
  where
    go : (b : Bool) → is_negative code ≡ b → let r = cond b (opposite_of a) a in
        (r / 2 ≡ a / 2) × ((r + code + a) % 2 ≡ 0)
    go true e = let x = eqb-true (code % 2) 1 e in let o = opposite-is a in (o.0, omega (arith, o.1))
    go false e = let x = eqb-false (code % 2) 1 e in (refl, omega arith)

-- opposite literals have opposite images
pub image-opposite : (row : List ℕ) (code : ℕ) → image_of row (opposite_of code) ≡ opposite_of (image_of row code)
unfolding image_of
image-opposite row code =
    let o = opposite-is code in
    let own = turned code (get_or row (variable_of code - 1) 0) in
    let other = turned (opposite_of code) (get_or row (variable_of (opposite_of code) - 1) 0) in
    let back = opposite-is (image_of row code) in
    let same = ap (λ (v : ℕ). get_or row (v - 1) 0) o.0 in
    one_code (half _ _ _ _ _ other.0 same own.0 back.0) (parity _ _ _ _ _ _ code other.1 same own.1 back.1 o.1)
  where
    half : (x a b r own : ℕ) → x / 2 ≡ a / 2 → a ≡ b → own / 2 ≡ b / 2 → r / 2 ≡ own / 2 → x / 2 ≡ r / 2
    half x a b r own p e q f = omega arith

    parity : (x a b r own opposite code : ℕ) → (x + opposite + a) % 2 ≡ 0 → a ≡ b → (own + code + b) % 2 ≡ 0 → (r + own) % 2 ≡ 1 → (opposite + code) % 2 ≡ 1 → x % 2 ≡ r % 2
    parity x a b r own opposite code p e q f g = omega arith

    one_code : {x r : ℕ} → x / 2 ≡ r / 2 → x % 2 ≡ r % 2 → x ≡ r
    one_code h p = omega arith

module _ (n : ℕ) (row : List ℕ) (r : Row n row) where
  pub image-good : (code : ℕ) → is_literal n code ≡ true → is_literal n (image_of row code) ≡ true
  unfolding image_of
  image-good code g =
      let low = literal-low n code g in
      let high = literal-high n code g in
      let t = turned code (get_or row (variable_of code - 1) 0) in
      literal-within n _ (omega (arith, t.0, r.low (variable_of code - 1) (omega arith))) (omega (arith, t.0, r.high (variable_of code - 1) (omega arith)))

  pub image-one : (x y : ℕ) → is_literal n x ≡ true → is_literal n y ≡ true → image_of row x ≡ image_of row y → x ≡ y
  unfolding image_of
  image-one x y gx gy e =
      let lx = literal-low n x gx in
      let hx = literal-high n x gx in
      let ly = literal-low n y gy in
      let hy = literal-high n y gy in
      let tx = turned x (get_or row (variable_of x - 1) 0) in
      let ty = turned y (get_or row (variable_of y - 1) 0) in
      let same : variable_of x - 1 ≡ variable_of y - 1 = r.one_place (variable_of x - 1) (variable_of y - 1) (omega arith) (omega arith) (omega arith) in
      signs _ _ _ _ x y tx.1 ty.1 e (ap (λ (i : ℕ). get_or row i 0) same) (omega arith)
    where
      signs : (r s a b x y : ℕ) → (r + x + a) % 2 ≡ 0 → (s + y + b) % 2 ≡ 0 → r ≡ s → a ≡ b → x / 2 ≡ y / 2 → x ≡ y
      signs r s a b x y p q e f g = omega arith

  back : (a b : List ℕ) → all_of (is_literal n) a ≡ true → all_of (is_literal n) b ≡ true
      → ((y : ℕ) → Memᴰ y (clause_image row a) → Memᴰ y (clause_image row b)) → (x : ℕ) → Memᴰ x a → Memᴰ x b
  unfolding clause_image
  back a b ga gb s x m =
      let t = Memᴰ.of_map (image_of row) b (s (image_of row x) (Memᴰ.map (image_of row) m)) in
      let same : t.0 ≡ x = image-one t.0 x (all-mem (is_literal n) t.1 gb) (all-mem (is_literal n) m ga) t.2 in
      Memᴰ.cast (sym same) t.1

  -- images with the same literals are images of clauses with the same literals
  pub images-one : (a b : List ℕ) → all_of (is_literal n) a ≡ true → all_of (is_literal n) b ≡ true → SameSet (clause_image row a) (clause_image row b) → SameSet a b
  images-one a b ga gb s x = (back a b ga gb (λ y. (s y).0) x, back b a gb ga (λ y. (s y).1) x)
