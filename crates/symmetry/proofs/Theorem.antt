-- What the number of the first missing image says: 0 just where the row is a symmetry. And what was a symmetry before CR 7 is one. Assumes nothing.
use mathlib.Core.Path.{◌≡◌, refl, sym, ◌∙◌}
use mathlib.Core.Bool.{Bool, true, false, cond, ◌||◌}
use mathlib.Core.List.Memᴰ
use mathlib.Core.List.{List, [], ◌∷◌, Memᴰ}
use mathlib.Core.Logic.{◌↔◌}
use Prim.Native.Nat.{ℕ, ◌+◌, ◌<◌}
use native.Mathlib.Omega.{arith}
use lib.ListN.{get_or}
use Rattle.lists.specs.Tests.{all_of}
use Rattle.lists.proofs.Cases.{never, bool-ext, and_l, and_r}
use Rattle.lists.proofs.Members.{any_at, any-in}
use Rattle.lists.proofs.Tests.{all-mem, mem-all}
use Rattle.store.specs.Literals.{is_literal}
use Rattle.store.proofs.Formed.{Row}
use Rattle.symmetry.specs.Sets.{same_set, SameSet, Among}
use Rattle.symmetry.specs.Judged.{has_opposites, judged}
use Rattle.symmetry.specs.Symmetry.{clause_image, MapsToItself, IsSymmetry, has_image, missing_from, first_missing}
use Rattle.symmetry.specs.Former.{IsFormerSymmetry}
use Rattle.symmetry.proofs.SetLaws.{mem-at, at_mem, same_set-iff, same-eq, same-trans}
use Rattle.symmetry.proofs.ImageLaws.{images-one}
use Rattle.symmetry.proofs.JudgedLaws.{opposites-image, judged-iff, judged-all, among-judged}
use Rattle.symmetry.proofs.Onto.{onto}

among_same : {a b : List ℕ} {formula : List (List ℕ)} → SameSet a b → Among b formula → Among a formula
among_same s m = record { twin = m.twin; member = m.member; same = same-trans s m.same }

module _ (row : List ℕ) (all : List (List ℕ)) where
  pub has_image-iff : (clause : List ℕ) → (has_image row all clause ≡ true) ↔ Among (clause_image row clause) all
  unfolding has_image
  has_image-iff clause = (
    λ e. let r = any_at (same_set (clause_image row clause)) all [] e in
        record { twin = get_or all r.0 []; member = at_mem [] all r.0 r.1; same = (same_set-iff _ _).0 r.2 },
    λ m. let r = mem-at [] m.member in
        any-in (same_set (clause_image row clause)) all [] r.0 r.1 ((same_set-iff _ _).1 (same-trans m.same (same-eq (sym r.2)))),
  )

  -- no image is missing from a part just where each judged clause of it has one
  none-iff : (k : ℕ) (clauses : List (List ℕ)) → 0 < k → (missing_from row all k clauses ≡ 0) ↔ (all_of (has_image row all) (judged clauses) ≡ true)
  unfolding missing_from all_of judged
  none-iff k [] h = (λ e. refl, λ e. refl)
  none-iff k (c ∷ clauses) h = go (has_opposites c) (has_image row all c) refl (none-iff (k + 1) clauses (omega arith))
    where
      go : (p b : Bool) → has_image row all c ≡ b → (missing_from row all (k + 1) clauses ≡ 0) ↔ (all_of (has_image row all) (judged clauses) ≡ true)
          → (cond (p || b) (missing_from row all (k + 1) clauses) k ≡ 0) ↔ (all_of (has_image row all) (cond p (judged clauses) (c ∷ judged clauses)) ≡ true)
      go true b q rest = rest
      go false true q rest = rw q rest
      go false false q rest = rw q (λ e. absurd (omega arith), λ e. never e)

-- Each image is one of the clauses, and different clauses have different images, so each clause is an image; and the other way round.
maps-iff : (n : ℕ) (row : List ℕ) (clauses : List (List ℕ)) → Row n row → all_of (all_of (is_literal n)) clauses ≡ true
    → (all_of (has_image row clauses) clauses ≡ true) ↔ MapsToItself row clauses
maps-iff n row clauses r good = (to, from)
  where
    literals : {c : List ℕ} → Memᴰ c clauses → all_of (is_literal n) c ≡ true
    literals m = all-mem (all_of (is_literal n)) m good

    into : all_of (has_image row clauses) clauses ≡ true → {c : List ℕ} → Memᴰ c clauses → Among (clause_image row c) clauses
    into e {c} m = (has_image-iff row clauses c).0 (all-mem (has_image row clauses) m e)

    to : all_of (has_image row clauses) clauses ≡ true → MapsToItself row clauses
    to e clause = (
      λ m. let t = Memᴰ.of_map (clause_image row) clauses m.member in among_same (same-trans m.same (same-eq (sym t.2))) (into e t.1),
      λ m. among_same m.same
          (onto (clause_image row) clauses (λ c. into e c.1) (λ a b. images-one n row r a.0 b.0 (literals a.1) (literals b.1)) (m.twin, m.member)),
    )

    from : MapsToItself row clauses → all_of (has_image row clauses) clauses ≡ true
    from s =
        mem-all (has_image row clauses) clauses (λ c m.
        (has_image-iff row clauses c).1
        ((s (clause_image row c)).0 (record { twin = clause_image row c; member = Memᴰ.map (clause_image row) m; same = same-eq refl })))

module _ (n : ℕ) (row : List ℕ) (formula : List (List ℕ)) (r : Row n row) where
  -- the image of a judged clause is a judged clause if it is a clause at all
  image-judged : (clause : List ℕ) → all_of (is_literal n) clause ≡ true → has_opposites clause ≡ false → has_image row formula clause ≡ has_image row (judged formula) clause
  image-judged clause good none =
      let among = among-judged formula (clause_image row clause) (opposites-image n row r clause good ∙ none) in
      bool-ext (has_image row formula clause) (has_image row (judged formula) clause)
      (λ e. (has_image-iff row (judged formula) clause).1 (among.0 ((has_image-iff row formula clause).0 e)))
      (λ e. (has_image-iff row formula clause).1 (among.1 ((has_image-iff row (judged formula) clause).0 e)))

  -- so it may be looked for among all clauses
  pub missing-among-all : (k : ℕ) (clauses : List (List ℕ)) → all_of (all_of (is_literal n)) clauses ≡ true
      → missing_from row formula k clauses ≡ missing_from row (judged formula) k clauses
  unfolding missing_from all_of
  missing-among-all k [] good = refl
  missing-among-all k (c ∷ clauses) good =
      go (has_opposites c) refl (missing-among-all (k + 1) clauses (and_r (all_of (is_literal n) c) (all_of (all_of (is_literal n)) clauses) good))
    where
      go : (p : Bool) → has_opposites c ≡ p → missing_from row formula (k + 1) clauses ≡ missing_from row (judged formula) (k + 1) clauses
          → cond (p || has_image row formula c) (missing_from row formula (k + 1) clauses) k
          ≡ cond (p || has_image row (judged formula) c) (missing_from row (judged formula) (k + 1) clauses) k
      go true q rest = rest
      go false q rest = rw (image-judged c (and_l (all_of (is_literal n) c) (all_of (all_of (is_literal n)) clauses) good) q, rest)

  module _ (good : all_of (all_of (is_literal n)) formula ≡ true) where
    maps : (all_of (has_image row (judged formula)) (judged formula) ≡ true) ↔ IsSymmetry row formula
    maps = maps-iff n row (judged formula) r (judged-all (all_of (is_literal n)) formula good)

    pub none-missing-iff : (first_missing row formula ≡ 0) ↔ IsSymmetry row formula
    none-missing-iff = let none = none-iff row (judged formula) 1 formula (omega arith) in (λ e. maps.0 (none.0 e), λ s. none.1 (maps.1 s))

    -- what maps all clauses to themselves does so with the judged ones
    pub symmetry-still : IsFormerSymmetry row formula → IsSymmetry row formula
    symmetry-still s =
        maps.0
        (mem-all (has_image row (judged formula)) (judged formula) (λ c m.
        let own = (judged-iff formula c).0 m in
        rw (← image-judged c (all-mem (all_of (is_literal n)) own.0 good) own.1) (all-mem (has_image row formula) own.0 ((maps-iff n row formula r good).1 s))))
