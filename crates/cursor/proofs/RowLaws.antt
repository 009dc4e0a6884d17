-- What rows add from a place on: a row that adds nothing is passed, and clauses taken leave those after them. Assumes nothing.
use mathlib.Core.Path.{◌≡◌, sym, ap, ap₂, subst, ◌∙◌}
use mathlib.Core.List.{List, [], ◌++◌, append_assoc}
use Prim.Native.Nat.{ℕ, ◌+◌, ◌-◌, ◌≤◌, ◌<◌}
use native.Mathlib.Omega.{arith}
use lib.ListN.{length, get_or, drop, length-append, get_or-append}
use Rattle.store.specs.Stores.{row_at, rows_from, FormedRows}
use Rattle.store.specs.declared.record.Record.{Record}
use Rattle.store.proofs.RowLaws.{from-here, from_end, row-size}
use Rattle.lexleader.specs.Made.{row_clauses, auxiliaries, rows_clauses}
use Rattle.lexleader.specs.Bounds.{max_before}
use Rattle.lexleader.specs.Clause.{pairs_at}
use Rattle.lexleader.specs.Places.{clauses_on, clauses_at, six_at, auxiliary_after, PlaceStands, ClauseStands, PlaceLeaves, PlaceAfter}
use Rattle.lexleader.specs.declared.places.Place.{Place}
use Rattle.lexleader.proofs.Bounds.{auxiliaries-most}
use Rattle.lexleader.proofs.PlaceLaws.{past, then_next, some-clause}
use Rattle.cursor.specs.Cursors.{added_left, added_from}

module _ (counts : Record) (images : List ℕ) (r : ℕ) where
  abbrev n : ℕ
  n = counts.variables

  abbrev rows : List (List ℕ)
  rows = rows_from n counts.rows images r

  -- past the last row
  module _ (over : counts.rows ≤ r) (p : Place) where
    pub nothing-added : added_from counts images r p ≡ []
    unfolding added_from added_left
    nothing-added = rw (from_end n counts.rows images r over)

    pub none-added : (e : ℕ) → added_from counts images r p ≡ rows_clauses e rows
    unfolding rows_clauses
    none-added e = nothing-added ∙ sym (ap (rows_clauses e) (from_end n counts.rows images r over))

  module _ (f : FormedRows n counts.rows images) (h : r < counts.rows) where
    abbrev row : List ℕ
    row = row_at n r images

    abbrev later : List (List ℕ)
    later = rows_from n counts.rows images (r + 1)

    pub size : length row ≡ n
    size = row-size n counts.rows images f.fits r h

    module _ (p : Place) where
      here : added_from counts images r p ≡ clauses_at row p ++ rows_clauses (auxiliary_after row p) later
      unfolding added_from added_left
      here = ap (λ (l : List (List ℕ)). added_left l p) (from-here n counts.rows images r h)

      pub here-some : ClauseStands row p → 0 < length (added_from counts images r p)
      here-some s =
          omega (
            arith,
            ap length here,
            length-append (clauses_at row p) (rows_clauses (auxiliary_after row p) later),
            some-clause row p s.stands s.inside,
          )

      -- the clause at a place where one stands
      pub here-first : ClauseStands row p → get_or (added_from counts images r p) 0 [] ≡ get_or (clauses_at row p) 0 []
      here-first s =
          ap (λ (l : List (List ℕ)). get_or l 0 []) here
          ∙ get_or-append (clauses_at row p) (rows_clauses (auxiliary_after row p) later) [] 0 (some-clause row p s.stands s.inside)

      -- the clauses of an auxiliary, from the first of them on
      pub here-six : ClauseStands row p → p.r ≡ 1 → p.next < n → (rest : List (List ℕ)) × (added_from counts images r p ≡ six_at row p ++ rest)
      here-six s first more =
          let none : p.r - 1 ≡ 0 = omega arith in
          let next = clauses_on (p.j + 1) (p.auxiliary + 1) (pairs_at p.next row) in
          let others = rows_clauses (auxiliary_after row p) later in (
            next ++ others,
            here
                ∙ ap (λ (l : List (List ℕ)). l ++ others) (then_next row p s.stands s.inside (omega (arith, size)) ∙ ap (λ (k : ℕ). drop k (six_at row p) ++ next) none)
                ∙ append_assoc (six_at row p) next others,
          )

      -- past the row's last clause
      module _ (none : n ≤ p.index) where
        nothing : (clauses_at row p ≡ []) × (auxiliary_after row p ≡ p.auxiliary)
        nothing = past row p (omega (arith, size))

        pub place-past : added_from counts images r p ≡ rows_clauses p.auxiliary later
        place-past = here ∙ ap₂ (λ (l : List (List ℕ)) (k : ℕ). l ++ rows_clauses k later) nothing.0 nothing.1

        pub place-few : auxiliary_after row p ≤ max_before (r + 1) + 1 → p.auxiliary ≤ max_before (r + 1) + 1
        place-few low = omega (arith, nothing.1)

      -- the row's first place
      module _ (e : ℕ) {held : List ℕ} (is : held ≡ row) (leaves : PlaceLeaves held p (row_clauses e held) (e + auxiliaries held)) where
        z : PlaceLeaves row p (row_clauses e row) (e + auxiliaries row)
        z = subst (λ (l : List ℕ). PlaceLeaves l p (row_clauses e l) (e + auxiliaries l)) is leaves

        pub first-stands : PlaceStands row p
        first-stands = z.stands

        pub first-here : added_from counts images r p ≡ rows_clauses e rows
        unfolding rows_clauses
        first-here =
            here
            ∙ ap₂ (λ (l : List (List ℕ)) (k : ℕ). l ++ rows_clauses k later) z.are z.auxiliary
            ∙ sym (ap (rows_clauses e) (from-here n counts.rows images r h))

        pub first-few : e ≤ max_before r + 1 → auxiliary_after row p ≤ max_before (r + 1) + 1
        first-few low = omega (arith, f.small, z.auxiliary, auxiliaries-most row, size)

    -- a later place
    pub after-here : (clauses : List (List ℕ)) (p q : Place) → PlaceAfter row p clauses q → added_from counts images r p ≡ clauses ++ added_from counts images r q
    after-here clauses p q z =
        here p
        ∙ ap₂ (λ (l : List (List ℕ)) (k : ℕ). l ++ rows_clauses k later) z.passed (sym z.auxiliary)
        ∙ append_assoc clauses (clauses_at row q) (rows_clauses (auxiliary_after row q) later)
        ∙ ap (λ (l : List (List ℕ)). clauses ++ l) (sym (here q))
