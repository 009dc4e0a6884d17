-- A symmetry takes models to models: the moved assignment gives a clause the value that the assignment gives its image. Assumes nothing.
use mathlib.Core.Path.{◌≡◌, refl, sym, ◌∙◌}
use mathlib.Core.Bool.{Bool, true, false, not, cond}
use mathlib.Core.List.Memᴰ
use mathlib.Core.List.{List, Memᴰ}
use Prim.Native.Nat.{ℕ, ◌-◌, ◌/◌}
use native.Mathlib.Omega.{arith}
use lib.ListN.{length, get_or, length-map}
use Rattle.lists.specs.Tests.{all_of}
use Rattle.lists.proofs.Members.{any_at, any-in, map_at, any-map}
use Rattle.lists.proofs.Tests.{all-mem, mem-all, any_same}
use Rattle.packed.specs.Order.{value_of}
use Rattle.store.specs.Literals.{is_negative, opposite_of, is_literal}
use Rattle.store.proofs.FormLaws.{literal-low, literal-high}
use Rattle.symmetry.specs.Sets.{SameSet, Among}
use Rattle.symmetry.specs.Judged.{judged}
use Rattle.symmetry.specs.Symmetry.{image_of, clause_image, MapsToItself, IsSymmetry}
use Rattle.symmetry.proofs.SetLaws.{mem-at, at_mem, same-eq, same-sym}
use Rattle.symmetry.proofs.JudgedLaws.{judged-all}
use Rattle.lexleader.specs.Models.{literal_value, clause_holds, formula_holds}
use Rattle.lexleader.specs.Rows.{moved}
use Rattle.lexleader.proofs.Truth.{value-opposite}
use Rattle.lexleader.proofs.AlwaysTrue.{holds-judged}

pub length_moved : (row : List ℕ) (a : List Bool) → length (moved row a) ≡ length row
unfolding moved
length_moved row a = length-map row (literal_value (value_of a))

-- clauses with the same literals hold together
clause-same : (v : ℕ → Bool) (c d : List ℕ) → SameSet c d → clause_holds v c ≡ true → clause_holds v d ≡ true
unfolding clause_holds
clause-same v c d s h =
    let r = any_at (literal_value v) c 0 h in
    let m = mem-at 0 ((s (get_or c r.0 0)).0 (at_mem 0 c r.0 r.1)) in
    any-in (literal_value v) d 0 m.0 m.1 (rw m.2 r.2)

module _ (n : ℕ) (row : List ℕ) (size : length row ≡ n) (a : List Bool) where
  literal-moved : (code : ℕ) → is_literal n code ≡ true → literal_value (value_of (moved row a)) code ≡ literal_value (value_of a) (image_of row code)
  unfolding moved image_of
  literal-moved code h =
      let low = literal-low n code h in
      let high = literal-high n code h in
      unfold literal_value in
      rw (map_at (literal_value (value_of a)) row (code / 2 - 1) 0 false (omega arith)) (turned (is_negative code) (get_or row (code / 2 - 1) 0))
    where
      turned : (b : Bool) (y : ℕ) → cond b (not (literal_value (value_of a) y)) (literal_value (value_of a) y) ≡ literal_value (value_of a) (cond b (opposite_of y) y)
      turned true y = sym (value-opposite (value_of a) y)
      turned false y = refl

  clause-moved : (clause : List ℕ) → all_of (is_literal n) clause ≡ true
      → clause_holds (value_of (moved row a)) clause ≡ clause_holds (value_of a) (clause_image row clause)
  unfolding clause_holds clause_image
  clause-moved clause h =
      any_same (is_literal n) (literal_value (value_of (moved row a))) (λ code. literal_value (value_of a) (image_of row code)) literal-moved clause h
      ∙ sym (any-map (literal_value (value_of a)) (image_of row) clause)

  clauses-moved : (clauses : List (List ℕ)) → all_of (all_of (is_literal n)) clauses ≡ true → MapsToItself row clauses
      → formula_holds (value_of a) clauses ≡ true → formula_holds (value_of (moved row a)) clauses ≡ true
  unfolding formula_holds
  clauses-moved clauses literals maps h = mem-all (clause_holds (value_of (moved row a))) clauses each
    where
      each : (clause : List ℕ) → Memᴰ clause clauses → clause_holds (value_of (moved row a)) clause ≡ true
      each c m =
          let image : Among (clause_image row c) clauses =
          (maps (clause_image row c)).0 (record { twin = clause_image row c; member = Memᴰ.map (clause_image row) m; same = same-eq refl }) in
          clause-moved c (all-mem (all_of (is_literal n)) m literals)
          ∙ clause-same (value_of a) image.twin (clause_image row c) (same-sym image.same) (all-mem (clause_holds (value_of a)) image.member h)

  pub formula-moved : (formula : List (List ℕ)) → all_of (all_of (is_literal n)) formula ≡ true → IsSymmetry row formula
      → formula_holds (value_of a) formula ≡ true → formula_holds (value_of (moved row a)) formula ≡ true
  formula-moved formula literals symmetric h =
      sym (holds-judged (value_of (moved row a)) formula)
      ∙ clauses-moved (judged formula) (judged-all (all_of (is_literal n)) formula literals) symmetric (holds-judged (value_of a) formula ∙ h)
