-- A loop over the rows: what is left is row r and those after it, and what that means for the counts and for the clause looked for. Assumes nothing.
use mathlib.Core.Path.{◌≡◌, ap, subst, ◌∙◌}
use mathlib.Core.List.{List, [], ◌++◌}
use Prim.Native.Nat.{ℕ, ◌+◌, ◌-◌, ◌*◌, ◌≤◌, ◌<◌}
use native.Mathlib.Omega.{arith}
use lib.ListN.{length, get_or, length-append, get_or-append}
use lib.Seq.{get_or-append-add}
use Rattle.store.specs.Stores.{max_variables, rows_of, row_at, rows_from, FormedRows}
use Rattle.store.proofs.RowLaws.{from_first, from-here, from_end, row-size}
use Rattle.lexleader.specs.Made.{row_clauses, auxiliaries, rows_clauses, all_auxiliaries}
use Rattle.lexleader.specs.Bounds.{max_before}
use Rattle.lexleader.proofs.Numbers.{rows-length}
use Rattle.lexleader.proofs.Bounds.{auxiliaries-most, clauses-most}

-- x auxiliaries and y clauses are what a row adds
abbrev pub Adds : ℕ → ℕ → List ℕ → Type 0
Adds x y row = (x ≡ auxiliaries row) × ((e : ℕ) → y ≡ length (row_clauses e row))

module _ (n rows : ℕ) (images : List ℕ) where
  -- row r and those after it
  abbrev left : ℕ → List (List ℕ)
  left r = rows_from n rows images r

  -- The sums at row r: a auxiliaries and k clauses so far.
  pub record Summed (a k r : ℕ) : Type 0 where
    pub upto : r ≤ rows
    pub few-auxiliaries : a ≤ r * (max_variables - 1)
    pub few-clauses : k ≤ 6 * (r * (max_variables - 1))
    pub all-auxiliaries : all_auxiliaries (rows_of n rows images) ≡ a + all_auxiliaries (left r)
    pub all-clauses : length (rows_clauses 0 (rows_of n rows images)) ≡ k + length (rows_clauses 0 (left r))

  pub summed-none : Summed 0 0 0
  summed-none = record {
    upto = omega arith;
    few-auxiliaries = omega arith;
    few-clauses = omega arith;
    all-auxiliaries = omega (arith, ap all_auxiliaries (from_first n rows images));
    all-clauses = omega (arith, ap (λ (l : List (List ℕ)). length (rows_clauses 0 l)) (from_first n rows images));
  }

  pub summed-more : FormedRows n rows images → {a k r x y : ℕ} {held : List ℕ} → Summed a k r → r < rows → held ≡ row_at n r images → Adds x y held
      → Summed (a + x) (k + y) (r + 1)
  unfolding all_auxiliaries rows_clauses
  summed-more f {a} {k} {r} {x} {y} s h is adds =
      let row : List ℕ = row_at n r images in
      let ax : x ≡ auxiliaries row = (subst (Adds x y) is adds).0 in
      let ky : (e : ℕ) → y ≡ length (row_clauses e row) = (subst (Adds x y) is adds).1 in
      let rest : List (List ℕ) = left (r + 1) in
      let size = row-size n rows images f.fits r h in
      record {
        upto = omega arith;
        few-auxiliaries = omega (arith, f.small, s.few-auxiliaries, auxiliaries-most row);
        few-clauses = omega (arith, s.few-clauses, ky 0, clauses-most 0 max_variables row (omega (arith, f.small)) (omega arith));
        all-auxiliaries = omega (arith, s.all-auxiliaries, ap all_auxiliaries (from-here n rows images r h));
        all-clauses =
            omega (
              arith,
              s.all-clauses,
              ap (λ (l : List (List ℕ)). length (rows_clauses 0 l)) (from-here n rows images r h),
              length-append (row_clauses 0 row) (rows_clauses (0 + auxiliaries row) rest),
              rows-length (0 + auxiliaries row) 0 rest,
              ky 0,
            );
      }

  pub summed-all : {a k r : ℕ} → Summed a k r → rows ≤ r
      → (a ≡ all_auxiliaries (rows_of n rows images)) × ((e : ℕ) → k ≡ length (rows_clauses e (rows_of n rows images)))
  unfolding all_auxiliaries rows_clauses
  summed-all {a} {k} {r} s h = (
    omega (arith, s.all-auxiliaries, ap all_auxiliaries (from_end n rows images r h)),
    λ e. omega (arith, s.all-clauses, ap (λ (l : List (List ℕ)). length (rows_clauses 0 l)) (from_end n rows images r h), rows-length 0 e (rows_of n rows images)),
  )

  -- what all rows add
  abbrev all : List (List ℕ)
  all = rows_clauses (n + 1) (rows_of n rows images)

  -- The search for clause q at row r, whose first auxiliary is e: it is clause k of what is left.
  pub record Sought (q e k r : ℕ) : Type 0 where
    pub upto : r ≤ rows
    pub low : e ≤ max_before r + 1
    pub passed : length all + k ≡ q + length (rows_clauses e (left r))
    pub same : get_or all q [] ≡ get_or (rows_clauses e (left r)) k []

  module _ (q : ℕ) where
    pub sought-first : n ≤ max_variables → Sought q (n + 1) q 0
    sought-first small = record {
      upto = omega arith;
      low = omega arith;
      passed = rw (from_first n rows images) (omega arith);
      same = rw (from_first n rows images);
    }

    module _ (e k r : ℕ) (s : Sought q e k r) where
      -- past the last row there is no such clause
      pub sought-none : rows ≤ r → length all ≤ q
      unfolding rows_clauses
      sought-none h = omega (arith, s.passed, ap (λ (l : List (List ℕ)). length (rows_clauses e l)) (from_end n rows images r h))

      module _ (there : r < rows) where
        apart : rows_clauses e (left r) ≡ row_clauses e (row_at n r images) ++ rows_clauses (e + auxiliaries (row_at n r images)) (left (r + 1))
        unfolding rows_clauses
        apart = ap (rows_clauses e) (from-here n rows images r there)

        pub sought-here : k < length (row_clauses e (row_at n r images)) → (q < length all) × (get_or all q [] ≡ get_or (row_clauses e (row_at n r images)) k [])
        sought-here h =
            let row : List ℕ = row_at n r images in
            let rest : List (List ℕ) = rows_clauses (e + auxiliaries row) (left (r + 1)) in (
              omega (arith, s.passed, ap length apart, length-append (row_clauses e row) rest),
              s.same ∙ ap (λ (l : List (List ℕ)). get_or l k []) apart ∙ get_or-append (row_clauses e row) rest [] k h,
            )

        pub sought-later : FormedRows n rows images → {x y : ℕ} {held : List ℕ} → held ≡ row_at n r images → Adds x y held → y ≤ k
            → Sought q (e + x) (k - y) (r + 1)
        sought-later f {x} {y} is adds h =
            let row : List ℕ = row_at n r images in
            let ax : x ≡ auxiliaries row = (subst (Adds x y) is adds).0 in
            let ky : y ≡ length (row_clauses e row) = (subst (Adds x y) is adds).1 e in
            let rest : List (List ℕ) = rows_clauses (e + x) (left (r + 1)) in
            let cut : rows_clauses e (left r) ≡ row_clauses e row ++ rest = rw ax apart in
            let number : k ≡ length (row_clauses e row) + (k - y) = omega arith in
            record {
              upto = omega arith;
              low = omega (arith, f.small, s.low, auxiliaries-most row, row-size n rows images f.fits r there);
              passed = omega (arith, s.passed, ap length cut, length-append (row_clauses e row) rest);
              same =
                  s.same
                  ∙ ap (λ (l : List (List ℕ)). get_or l k []) cut
                  ∙ ap (λ (i : ℕ). get_or (row_clauses e row ++ rest) i []) number
                  ∙ get_or-append-add (row_clauses e row) rest (k - y) [];
            }
