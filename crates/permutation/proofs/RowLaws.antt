-- The row that two lines state, and how it is written. Assumes nothing.
use mathlib.Core.Path.{◌≡◌, refl, sym, ap, ◌∙◌}
use mathlib.Core.Bool.{Bool, true, false, cond}
use mathlib.Core.List.{List, [], ◌∷◌, ◌++◌}
use mathlib.Core.Logic.{⊎_elim}
use Prim.Native.Nat.{ℕ, zero, suc, ◌+◌, ◌-◌, ◌*◌, ◌≤◌, ◌<◌}
use native.Mathlib.Decide.{ℕ_discrete}
use native.Mathlib.Nat.{not-suc-le-zero, le_of_suc-le-suc}
use native.Mathlib.Numerals.{add-one}
use native.Mathlib.Omega.{arith}
use borrow.Author.Tests.{eq-eqb, ne_eqb}
use lib.ListN.{length, get_or, set, take, drop, length-append, length-drop, length-set, get_or-append}
use lib.Seq.{take_at, drop_at, append_snoc, get_or-append-add, set_at, get_or-take, get_or-drop, ext_get_or}
use lib.Dec.{eqb}
use Rattle.lists.specs.Tests.{any_of, has, distinct}
use Rattle.lists.specs.Tables.{table}
use Rattle.lists.proofs.Cases.{never, or-l-false, or-r-false, not_so, lt-or-le}
use Rattle.lists.proofs.Members.{placed, has-head}
use Rattle.lists.proofs.Steps.{drop-step}
use Rattle.lists.proofs.TableLaws.{length-table, get_or-table, table-snoc}
use Rattle.store.specs.Identity.{identity}
use Rattle.permutation.specs.Lines.{names_on, values_on}
use Rattle.permutation.specs.Stated.{image_among, row_stated, row_of}
use Rattle.permutation.specs.Names.{Named}
use Rattle.permutation.proofs.Lists.{head-once, rest-differ, stored}
use Rattle.permutation.proofs.InOrder.{named-rest}

-- ---- a table that a loop writes over the start of a list

pub table_none : (f : ℕ → ℕ) (l : List ℕ) → l ≡ table 0 f ++ drop 0 l
unfolding table
table_none f l = refl

pub table_more : (f : ℕ → ℕ) (l : List ℕ) (i : ℕ) → i < length l → set (table i f ++ drop i l) i (f i) ≡ table (i + 1) f ++ drop (i + 1) l
table_more f l i h =
    rw (
      drop-step l i 0 h,
      set_at (table i f) (get_or l i 0) (drop (i + 1) l) (f i) i (length-table i f),
      add-one i,
      table-snoc i f,
      append_snoc (table i f) (f i) (drop (suc i) l),
    )

module _ (n : ℕ) (f : ℕ → ℕ) (l row : List ℕ) (e : row ≡ table n f ++ drop n l) where
  pub table-front : take n row ≡ table n f
  table-front = rw e (take_at (table n f) (drop n l) n (length-table n f))

  pub table-back : drop n row ≡ drop n l
  table-back = rw e (drop_at (table n f) (drop n l) n (length-table n f))

-- ---- the image of a variable

pub among-elsewhere : (names values : List ℕ) (i : ℕ) → has names i ≡ false → image_among names values i ≡ 2 * i
unfolding image_among any_of
among-elsewhere [] values i e = refl
among-elsewhere (a ∷ names) [] i e = refl
among-elsewhere (a ∷ names) (b ∷ values) i e =
    rw (or-l-false (eqb a i) (has names i) e) (among-elsewhere names values i (or-r-false (eqb a i) (has names i) e))

pub among-at : (names values : List ℕ) → distinct names ≡ true → length names ≤ length values → (k : ℕ) → k < length names
    → image_among names values (get_or names k 0) ≡ get_or values k 0
unfolding image_among
among-at [] values d m k h = absurd (not-suc-le-zero h)
among-at (a ∷ names) [] d m k h = absurd (not-suc-le-zero m)
among-at (a ∷ names) (b ∷ values) d m zero h = rw (eq-eqb a a refl)
among-at (a ∷ names) (b ∷ values) d m (suc k) h =
    let other : eqb a (get_or names k 0) ≡ false = ne_eqb _ _ (λ q. never (sym (head-once a names d) ∙ placed names a k (le_of_suc-le-suc h) (sym q))) in
    rw other (among-at names values (rest-differ a names d) (le_of_suc-le-suc m) k (le_of_suc-le-suc h))

-- ---- the row

module _ (n : ℕ) (names values : List ℕ) where
  pub row-length : length (row_stated n names values) ≡ n
  unfolding row_stated
  row-length = length-table n (λ k. image_among (names_on names) (values_on values) (suc k))

  pub row_at : (i : ℕ) → i < n → get_or (row_stated n names values) i 0 ≡ image_among (names_on names) (values_on values) (suc i)
  unfolding row_stated
  row_at i h = get_or-table n (λ k. image_among (names_on names) (values_on values) (suc k)) i 0 h

-- ---- a loop that puts each value in its name's place: an image is among the names and values that are left, or in its place

abbrev left_or_placed : List ℕ → List ℕ → List ℕ → ℕ → ℕ
left_or_placed names values row j = cond (has names (suc j)) (image_among names values (suc j)) (get_or row j 0)

pub record Placing (n : ℕ) (final names values row : List ℕ) : Type 0 where
  pub room : length row ≡ length final
  pub fits : n ≤ length row
  pub named : Named n names
  pub is : (j : ℕ) → get_or final j 0 ≡ left_or_placed names values row j

pub placing-none : (n : ℕ) (names values row : List ℕ) → Named n names → n ≤ length row → take n row ≡ identity n
    → Placing n (row_of n names values ++ drop n row) names values row
placing-none n names values row named fits e = record {
  room = sym (simp (length-append, size, length-drop) (omega arith));
  fits = fits;
  named = named;
  is = λ j. ⊎_elim (inside j) (outside j) (lt-or-le j n);
}
  where
    image : ℕ → ℕ
    image k = image_among names values (suc k)

    size : length (row_of n names values) ≡ n
    size = length-table n image

    inside : (j : ℕ) → j < n → get_or (row_of n names values ++ drop n row) j 0 ≡ left_or_placed names values row j
    inside j h =
        get_or-append (row_of n names values) (drop n row) 0 j (omega (arith, size)) ∙ get_or-table n image j 0 h ∙ by (has names (suc j)) refl
      where
        stays : get_or row j 0 ≡ 2 * suc j
        stays = sym (get_or-take n row j 0 h) ∙ rw e (get_or-table n (λ k. 2 * suc k) j 0 h)

        by : (t : Bool) → has names (suc j) ≡ t → image j ≡ cond t (image j) (get_or row j 0)
        by true q = refl
        by false q = among-elsewhere names values (suc j) q ∙ sym stays

    outside : (j : ℕ) → n ≤ j → get_or (row_of n names values ++ drop n row) j 0 ≡ left_or_placed names values row j
    outside j h =
        let unnamed : has names (suc j) ≡ false = not_so _ (λ t. omega (arith, named.high (suc j) t)) in
        let past : j ≡ length (row_of n names values) + (j - n) = omega (arith, size) in
        let here : n + (j - n) ≡ j = omega arith in
        ap (λ (k : ℕ). get_or (row_of n names values ++ drop n row) k 0) past
        ∙ get_or-append-add (row_of n names values) (drop n row) (j - n) 0
        ∙ get_or-drop n row (j - n) 0
        ∙ rw (unnamed, here)

module _ {n : ℕ} {final names values row : List ℕ} (p : Placing n final names values row) where
  pub placing-name : {a : ℕ} {rest : List ℕ} → names ≡ a ∷ rest → (1 ≤ a) × (a ≤ n)
  placing-name {a} {rest} e =
      let here : has names a ≡ true = rw e (has-head a rest) in
      (p.named.low a here, p.named.high a here)

  pub placing-more : {a : ℕ} {names' : List ℕ} {b : ℕ} {values' : List ℕ} → names ≡ a ∷ names' → values ≡ b ∷ values'
      → Placing n final names' values' (set row (a - 1) b)
  unfolding image_among any_of
  placing-more {a} {names'} {b} {values'} e f = record {
    room = simp length-set p.room;
    fits = simp length-set p.fits;
    named = named-rest p.named e;
    is = λ j. p.is j ∙ rw (e, f, stored row (a - 1) j b 0 (omega (arith, placing-name e, p.fits))) (by j (ℕ_discrete a (suc j)));
  }
    where
      once : has names' a ≡ false
      once = head-once a names' (rw e at p.named.differ)

      by : (j : ℕ) → Dec (a ≡ suc j)
          → left_or_placed (a ∷ names') (b ∷ values') row j
          ≡ cond (has names' (suc j)) (image_among names' values' (suc j)) (cond (eqb (a - 1) j) b (get_or row j 0))
      by j (yes q) = rw (eq-eqb a (suc j) q, eq-eqb (a - 1) j (omega arith), ← q, once)
      by j (no q) = rw (ne_eqb a (suc j) q, ne_eqb (a - 1) j (λ r. q (omega (arith, placing-name e))))

  pub placing-all : names ≡ [] → row ≡ final
  unfolding any_of
  placing-all e = ext_get_or 0 row final p.room (λ i h. sym (p.is i ∙ rw e))
