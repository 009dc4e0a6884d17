-- Two lines in order state a permutation: each value stands in its name's place, and every other variable in its own. Assumes nothing.
use mathlib.Core.Path.{◌≡◌, refl, sym, ap, ◌∙◌}
use mathlib.Core.Bool.{Bool, true, false}
use mathlib.Core.List.{List}
use mathlib.Core.Logic.{◌⊎◌, inl, inr, ⊎_elim, ◌↔◌}
use Prim.Native.Nat.{ℕ, suc, ◌-◌, ◌*◌, ◌≤◌, ◌<◌}
use native.Mathlib.Omega.{arith}
use lib.ListN.{length, get_or, length-map}
use Rattle.std.proofs.Common.{Ok}
use Rattle.lists.specs.Tests.{has}
use Rattle.lists.proofs.Cases.{never}
use Rattle.lists.proofs.Members.{place, placed}
use Rattle.lists.proofs.Distinct.{distinct-inj}
use Rattle.store.specs.Literals.{variable_of, is_literal}
use Rattle.store.specs.Stores.{is_row}
use Rattle.store.specs.Identity.{moves_nothing}
use Rattle.store.proofs.FormLaws.{variables, variable-at, literal-low, literal-high, literal-within}
use Rattle.store.proofs.Formed.{is-row}
use Rattle.store.proofs.Identity.{moves-nothing-each}
use Rattle.permutation.specs.Lines.{names_on, values_on}
use Rattle.permutation.specs.Stated.{stated_by, image_among, row_stated}
use Rattle.permutation.proofs.InOrder.{InOrder, in_order}
use Rattle.permutation.proofs.RowLaws.{among-elsewhere, among-at, row-length, row_at}

-- the image of variable i at index i - 1
row_of : (n : ℕ) (names values : List ℕ) (i : ℕ) → 1 ≤ i → i ≤ n
    → get_or (row_stated n names values) (i - 1) 0 ≡ image_among (names_on names) (values_on values) i
row_of n names values i low high =
    let next : suc (i - 1) ≡ i = omega arith in
    rw next at (row_at n names values (i - 1) (omega arith))

pub row-elsewhere : (n : ℕ) (names values : List ℕ) (i : ℕ) → 1 ≤ i → i ≤ n → has (names_on names) i ≡ false
    → get_or (row_stated n names values) (i - 1) 0 ≡ 2 * i
row-elsewhere n names values i low high e = row_of n names values i low high ∙ among-elsewhere (names_on names) (values_on values) i e

module _ (n : ℕ) (names values : List ℕ) (o : InOrder n names values) where
  abbrev named : List ℕ
  named = names_on names

  abbrev stated : List ℕ
  stated = values_on values

  image-at : (k : ℕ) → k < length named → image_among named stated (get_or named k 0) ≡ get_or stated k 0
  image-at k h = among-at named stated o.named.differ (omega (arith, o.as_many)) k h

  -- a variable is named at some place, or it stays
  record NamedAt (v : ℕ) : Type 0 where
    k : ℕ
    within : k < length stated
    name : get_or named k 0 ≡ v
    value : image_among named stated v ≡ get_or stated k 0

  record Stays (v : ℕ) : Type 0 where
    unnamed : has named v ≡ false
    same : image_among named stated v ≡ 2 * v

  image-of : (v : ℕ) → NamedAt v ⊎ Stays v
  image-of v = by (has named v) refl
    where
      by : (t : Bool) → has named v ≡ t → NamedAt v ⊎ Stays v
      by true e =
          let p = place named v e in
          inl (record { k = p.0; within = omega (arith, o.as_many, p.1); name = p.2; value = rw p.2 at (image-at p.0 p.1) })
      by false e = inr (record { unnamed = e; same = among-elsewhere named stated v e })

  stated-at : (k : ℕ) → k < length stated → has stated (get_or stated k 0) ≡ true
  stated-at k h = placed stated (get_or stated k 0) k h refl

  image-literal : (v : ℕ) → 1 ≤ v → v ≤ n → is_literal n (image_among named stated v) ≡ true
  image-literal v low high =
      ⊎_elim (λ a. rw a.value (o.literal _ (stated-at a.k a.within)))
      (λ s. rw s.same (literal-within n (2 * v) (omega arith) (omega arith)))
      (image-of v)

  -- no value is a variable that stays
  apart : (u v : ℕ) → NamedAt u → Stays v → variable_of (image_among named stated u) ≡ variable_of (image_among named stated v) → ⊥
  apart u v a s e =
      let same : variable_of (get_or stated a.k 0) ≡ v = omega (arith, e, a.value, s.same) in
      never (sym s.unnamed ∙ rw same at (o.among _ (stated-at a.k a.within)))

  one_place : (u v : ℕ) → variable_of (image_among named stated u) ≡ variable_of (image_among named stated v) → u ≡ v
  one_place u v e =
      ⊎_elim (λ a. ⊎_elim (both a) (λ s. absurd (apart u v a s e)) (image-of v))
      (λ s. ⊎_elim (λ b. absurd (apart v u b s (sym e))) (λ t. omega (arith, e, s.same, t.same)) (image-of v))
      (image-of u)
    where
      both : NamedAt u → NamedAt v → u ≡ v
      both a b =
          let same : variable_of (get_or stated a.k 0) ≡ variable_of (get_or stated b.k 0) = omega (arith, e, a.value, b.value) in
          let size = length-map stated variable_of in
          let place = distinct-inj (variables stated) o.differ a.k b.k (omega (arith, a.within, size)) (omega (arith, b.within, size))
          (variable-at stated a.k ∙ same ∙ sym (variable-at stated b.k)) in
          sym a.name ∙ ap (λ (k : ℕ). get_or named k 0) place ∙ b.name

  row_is : is_row n (row_stated n names values) ≡ true
  row_is =
      let row : List ℕ = row_stated n names values in
      let at : (i : ℕ) → i < n → get_or row i 0 ≡ image_among named stated (suc i) = row_at n names values in
      let literal : (i : ℕ) → i < n → is_literal n (get_or row i 0) ≡ true = λ i h. rw (at i h) (image-literal (suc i) (omega arith) (omega arith)) in
      is-row n row (record {
        size = row-length n names values;
        low = λ i h. literal-low n (get_or row i 0) (literal i h);
        high = λ i h. literal-high n (get_or row i 0) (literal i h);
        one_place = λ i j h k q. omega (arith, one_place (suc i) (suc j) (rw (at i h, at j k) at q));
      })

pub stated-row : (n : ℕ) (names values : List ℕ) → stated_by n names values ≡ (Ok tt) → is_row n (row_stated n names values) ≡ true
stated-row n names values e = row_is n names values (in_order n names values e)

pub row-at-name : (n : ℕ) (names values : List ℕ) → stated_by n names values ≡ (Ok tt)
    → (k : ℕ) → k < length (names_on names) → get_or (row_stated n names values) (get_or (names_on names) k 0 - 1) 0 ≡ get_or (values_on values) k 0
row-at-name n names values e k h =
    let o = in_order n names values e in
    let name : has (names_on names) (get_or (names_on names) k 0) ≡ true = placed (names_on names) _ k h refl in
    row_of n names values (get_or (names_on names) k 0) (o.named.low _ name) (o.named.high _ name) ∙ image-at n names values o k h

-- "every value equals its name" (document 02, CR 8) exactly where the row moves nothing
pub each-own-iff : (n : ℕ) (names values : List ℕ) → stated_by n names values ≡ (Ok tt)
    → (moves_nothing (row_stated n names values) ≡ true) ↔ ((k : ℕ) → k < length (names_on names) → get_or (values_on values) k 0 ≡ 2 * get_or (names_on names) k 0)
each-own-iff n names values e = (
  λ stays k h.
      let name : has (names_on names) (get_or (names_on names) k 0) ≡ true = placed (names_on names) _ k h refl in
      sym (row-at-name n names values e k h)
      ∙ (moves-nothing-each (row_stated n names values)).0 stays _ (o.named.low _ name) (omega (arith, o.named.high _ name, row-length n names values)),
  λ own. (moves-nothing-each (row_stated n names values)).1 (λ i low high.
      row_of n names values i low (omega (arith, row-length n names values))
      ∙ ⊎_elim (λ a. a.value ∙ own a.k (omega (arith, a.within, o.as_many)) ∙ ap (λ (v : ℕ). 2 * v) a.name) (λ s. s.same) (image-of n names values o i)),
)
  where
    o : InOrder n names values
    o = in_order n names values e
