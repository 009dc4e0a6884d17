-- The literals of words, cut by their ends, are the words' clauses; and the last end. Assumes nothing.
use mathlib.Core.Path.{◌≡◌, refl, sym, ap, ◌∙◌}
use mathlib.Core.Bool.{Bool, true, false, cond}
use mathlib.Core.List.{List, [], ◌∷◌, ◌++◌}
use Prim.Native.Nat.{ℕ, suc, ◌+◌, ◌-◌, ◌≤◌, ◌<◌}
use native.Mathlib.Numerals.{add-one}
use native.Mathlib.Omega.{arith}
use lib.ListN.{length, take, drop, get_or, length-drop}
use lib.Seq.{drop-cons, slice, slice_empty, drop-append-le, take-suc, length-take-le}
use lib.Dec.{eqb}
use Rattle.dimacs.specs.Words.{Piece}
use Rattle.store.specs.Stores.{literal_count, cut}
use Rattle.store.specs.Numerals.{code_in}
use Rattle.store.proofs.FormLaws.{count_none, count-last}
use Rattle.opening.specs.Clauses.{literals_in, ends_from, clauses_from}
use Rattle.opening.proofs.DoneLaws.{last_or}

-- one literal more
module _ (all : List ℕ) (count code : ℕ) (rest : List ℕ) (here : drop count all ≡ code ∷ rest) where
  inside : count < length all
  inside = omega (arith, ap length here, length-drop count all)

  split : get_or all count 0 ∷ drop (suc count) all ≡ code ∷ rest
  split = sym (drop-cons all count 0 inside) ∙ here

  rest_from : drop (count + 1) all ≡ rest
  rest_from = rw (add-one count) (cc split)

  slice-more : (from : ℕ) → from ≤ count → slice from (count + 1) all ≡ slice from count all ++ (code ∷ [])
  slice-more from h =
      let same : get_or all count 0 ≡ code = cc split in
      rw (add-one count, take-suc all count 0 inside, same)
      (drop-append-le from (take count all) (code ∷ []) (omega (arith, length-take-le count all (omega (arith, inside)))))

-- the words after `count` literals, in the clause that begins at `from`
pub cut-clauses : (ws : List Piece) (all rest : List ℕ) (from count : ℕ) → from ≤ count → drop count all ≡ literals_in ws ++ rest
    → cut from all (ends_from count ws) ≡ clauses_from (slice from count all) ws
unfolding cut literals_in ends_from clauses_from
cut-clauses [] all rest from count h e = refl
cut-clauses (w ∷ ws) all rest from count h e = by (eqb (code_in w) 0) e (cut-clauses ws all rest)
  where
    by : (t : Bool) → drop count all ≡ cond t (literals_in ws) (code_in w ∷ literals_in ws) ++ rest
        → ((from' count' : ℕ) → from' ≤ count' → drop count' all ≡ literals_in ws ++ rest → cut from' all (ends_from count' ws) ≡ clauses_from (slice from' count' all) ws)
        → cut from all (cond t (count ∷ ends_from count ws) (ends_from (count + 1) ws))
        ≡ cond t (slice from count all ∷ clauses_from [] ws) (clauses_from (slice from count all ++ (code_in w ∷ [])) ws)
    by true q ih = ap (λ (cs : List (List ℕ)). slice from count all ∷ cs) (ih count count (omega arith) q ∙ rw (slice_empty count all))
    by false q ih =
        ih from (count + 1) (omega arith) (rest_from all count (code_in w) (literals_in ws ++ rest) q)
        ∙ rw (slice-more all count (code_in w) (literals_in ws ++ rest) q from h)

-- the last end is the count of literals in use
last-at : (x : ℕ) (l r : List ℕ) → get_or (x ∷ (l ++ r)) (length l) 0 ≡ last_or x l
unfolding last_or
last-at x [] r = refl
last-at x (y ∷ l) r = last-at y l r

pub last_end : (l r : List ℕ) → literal_count (length l) (l ++ r) ≡ last_or 0 l
unfolding last_or
last_end [] r = count_none 0 r refl
last_end (x ∷ l) r =
    let one : suc (length l) - 1 ≡ length l = omega arith in
    count-last (suc (length l)) (x ∷ (l ++ r)) (λ z. omega arith) ∙ rw one (last-at x l r)
