-- Clauses with a contradictory pair, and those without: as sets, as images, as members of a formula. Assumes nothing.
use mathlib.Core.Path.{◌≡◌, refl, sym, ◌∙◌}
use mathlib.Core.Bool.{Bool, true, false, cond}
use mathlib.Core.List.Memᴰ
use mathlib.Core.List.{List, [], ◌∷◌, Memᴰ}
use mathlib.Core.Logic.{◌↔◌}
use Prim.Native.Nat.{ℕ}
use native.Mathlib.Nat.{not-suc-le-zero}
use lib.ListN.{get_or}
use Rattle.lists.specs.Tests.{all_of, has}
use Rattle.lists.proofs.Cases.{bool-ext, never}
use Rattle.lists.proofs.Members.{any_at, any-in}
use Rattle.lists.proofs.Tests.{all-mem, mem-all}
use Rattle.store.specs.Literals.{opposite_of, is_literal}
use Rattle.store.proofs.FormLaws.{opposite-within}
use Rattle.store.proofs.Formed.{Row}
use Rattle.symmetry.specs.Sets.{SameSet, Among}
use Rattle.symmetry.specs.Judged.{has_opposites, judged}
use Rattle.symmetry.specs.Symmetry.{image_of, clause_image}
use Rattle.symmetry.proofs.SetLaws.{mem-at, at_mem, has-iff, same-sym}
use Rattle.symmetry.proofs.ImageLaws.{image-one, image-opposite}

-- a literal and its opposite, both in the clause
pub record Opposites (clause : List ℕ) : Type 0 where
  pub literal : ℕ
  pub one : Memᴰ literal clause
  pub other : Memᴰ (opposite_of literal) clause

pub opposites-iff : (clause : List ℕ) → (has_opposites clause ≡ true) ↔ Opposites clause
unfolding has_opposites
opposites-iff clause = (
  λ e. let r = any_at (λ code. has clause (opposite_of code)) clause 0 e in
      record { literal = get_or clause r.0 0; one = at_mem 0 clause r.0 r.1; other = (has-iff clause _).0 r.2 },
  λ p. let r = mem-at 0 p.one in
      any-in (λ code. has clause (opposite_of code)) clause 0 r.0 r.1 (rw r.2 ((has-iff clause (opposite_of p.literal)).1 p.other)),
)

-- of clauses with the same literals both have a pair, or neither
pub opposites-same : (a b : List ℕ) → SameSet a b → has_opposites a ≡ has_opposites b
opposites-same a b s = bool-ext (has_opposites a) (has_opposites b) (over a b s) (over b a (same-sym s))
  where
    over : (a b : List ℕ) → SameSet a b → has_opposites a ≡ true → has_opposites b ≡ true
    over a b s e =
        let p = (opposites-iff a).0 e in
        (opposites-iff b).1 (record { literal = p.literal; one = (s p.literal).0 p.one; other = (s (opposite_of p.literal)).0 p.other })

-- an image has a pair just where its clause has one
pub opposites-image : (n : ℕ) (row : List ℕ) → Row n row → (clause : List ℕ) → all_of (is_literal n) clause ≡ true → has_opposites (clause_image row clause) ≡ has_opposites clause
unfolding clause_image
opposites-image n row r clause good = bool-ext (has_opposites (clause_image row clause)) (has_opposites clause) to from
  where
    literal : {x : ℕ} → Memᴰ x clause → is_literal n x ≡ true
    literal m = all-mem (is_literal n) m good

    to : has_opposites (clause_image row clause) ≡ true → has_opposites clause ≡ true
    to e =
        let p = (opposites-iff (clause_image row clause)).0 e in
        let x = Memᴰ.of_map (image_of row) clause p.one in
        let y = Memᴰ.of_map (image_of row) clause p.other in
        let same : y.0 ≡ opposite_of x.0 =
        image-one n row r y.0 (opposite_of x.0) (literal y.1) (opposite-within n x.0 (literal x.1))
        (y.2 ∙ sym (image-opposite row x.0 ∙ rw x.2)) in
        (opposites-iff clause).1 (record { literal = x.0; one = x.1; other = Memᴰ.cast (sym same) y.1 })

    from : has_opposites clause ≡ true → has_opposites (clause_image row clause) ≡ true
    from e =
        let p = (opposites-iff clause).0 e in
        (opposites-iff (clause_image row clause)).1
        (record {
          literal = image_of row p.literal;
          one = Memᴰ.map (image_of row) p.one;
          other = Memᴰ.cast (sym (image-opposite row p.literal)) (Memᴰ.map (image_of row) p.other);
        })

-- the judged clauses are those of the formula that have no pair
pub judged-iff : (formula : List (List ℕ)) (c : List ℕ) → Memᴰ c (judged formula) ↔ (Memᴰ c formula × (has_opposites c ≡ false))
unfolding judged
judged-iff [] c = (λ m. absurd (none m), λ p. absurd (none p.0))
  where
    none : Memᴰ c [] → ⊥
    none m = not-suc-le-zero (mem-at c m).1
judged-iff (d ∷ formula) c = go (has_opposites d) refl (judged-iff formula c)
  where
    go : (b : Bool) → has_opposites d ≡ b → Memᴰ c (judged formula) ↔ (Memᴰ c formula × (has_opposites c ≡ false))
        → Memᴰ c (cond b (judged formula) (d ∷ judged formula)) ↔ (Memᴰ c (d ∷ formula) × (has_opposites c ≡ false))
    go true q rest = (λ m. let r = rest.0 m in (Memᴰ.tail r.0, r.1), λ p. later p.0 p.1)
      where
        later : Memᴰ c (d ∷ formula) → has_opposites c ≡ false → Memᴰ c (judged formula)
        later (Memᴰ.head e) f = never (sym f ∙ rw e q)
        later (Memᴰ.tail m) f = rest.1 (m, f)
    go false q rest = (to, λ p. from p.0 p.1)
      where
        to : Memᴰ c (d ∷ judged formula) → Memᴰ c (d ∷ formula) × (has_opposites c ≡ false)
        to (Memᴰ.head e) = (Memᴰ.head e, rw e q)
        to (Memᴰ.tail m) = let r = rest.0 m in (Memᴰ.tail r.0, r.1)

        from : Memᴰ c (d ∷ formula) → has_opposites c ≡ false → Memᴰ c (d ∷ judged formula)
        from (Memᴰ.head e) f = Memᴰ.head e
        from (Memᴰ.tail m) f = Memᴰ.tail (rest.1 (m, f))

pub judged-all : (test : List ℕ → Bool) (formula : List (List ℕ)) → all_of test formula ≡ true → all_of test (judged formula) ≡ true
judged-all test formula e = mem-all test (judged formula) (λ c m. all-mem test ((judged-iff formula c).0 m).0 e)

-- what has no pair is one of the judged clauses if it is one of them all
pub among-judged : (formula : List (List ℕ)) (c : List ℕ) → has_opposites c ≡ false → Among c formula ↔ Among c (judged formula)
among-judged formula c none = (
  λ m. record { twin = m.twin; member = (judged-iff formula m.twin).1 (m.member, sym (opposites-same c m.twin m.same) ∙ none); same = m.same },
  λ m. record { twin = m.twin; member = ((judged-iff formula m.twin).0 m.member).0; same = m.same },
)
