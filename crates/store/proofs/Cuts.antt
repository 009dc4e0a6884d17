-- The clauses that the ends cut, by number. Assumes nothing.
use mathlib.Core.Path.{◌≡◌, refl, sym, ap, ap₂, ◌∙◌}
use mathlib.Core.List.{List, [], ◌∷◌}
use Prim.Native.Nat.{ℕ, zero, suc, ◌+◌, ◌-◌, ◌≤◌, ◌<◌}
use native.Mathlib.Nat.{not-suc-le-zero, le_of_suc-le-suc, sub-zero}
use native.Mathlib.Omega.{arith}
use lib.ListN.{length, get_or, take, drop}
use lib.Seq.{slice, take-nil, get_or-take, length-take-le}
use Rattle.store.specs.Stores.{literal_count, clause_at, cut, clauses_in}
use Rattle.store.proofs.FormLaws.{count_none, count-last}

pub length_cut : (from : ℕ) (literals ends : List ℕ) → length (cut from literals ends) ≡ length ends
unfolding cut
length_cut from literals [] = refl
length_cut from literals (e ∷ ends) = ap suc (length_cut e literals ends)

-- the end of clause c, from 0
pub end_is : (c : ℕ) (ends : List ℕ) → literal_count (c + 1) ends ≡ get_or ends c 0
end_is c ends = let same : c + 1 - 1 ≡ c = omega arith in count-last (c + 1) ends (λ e. omega arith) ∙ rw same

-- clause i, from 0, starts at the end of the one before it
pub cut_at : (from : ℕ) (literals ends : List ℕ) (i : ℕ) → i < length ends → get_or (cut from literals ends) i [] ≡ slice (get_or (from ∷ ends) i 0) (get_or ends i 0) literals
unfolding cut
cut_at from literals [] i h = absurd (not-suc-le-zero h)
cut_at from literals (e ∷ ends) zero h = refl
cut_at from literals (e ∷ ends) (suc i) h = cut_at e literals ends i (le_of_suc-le-suc h)

pub start-at : (i : ℕ) (ends : List ℕ) → literal_count i ends ≡ get_or (0 ∷ ends) i 0
start-at zero ends = count_none 0 ends refl
start-at (suc i) ends = let last : suc i - 1 ≡ i = omega arith in count-last (suc i) ends (λ e. omega arith) ∙ ap (λ (k : ℕ). get_or ends k 0) last

pub clauses-count : (literals ends : List ℕ) (m : ℕ) → m ≤ length ends → length (clauses_in m literals ends) ≡ m
clauses-count literals ends m long = length_cut 0 literals (take m ends) ∙ length-take-le m ends long

-- clause c of m is what `clause_at` says
pub clause-is : (literals ends : List ℕ) (m c : ℕ) → m ≤ length ends → c < m → get_or (clauses_in m literals ends) c [] ≡ clause_at literals ends c
clause-is literals ends m c long h =
    let size : length (take m ends) ≡ m = length-take-le m ends long in
    let start : get_or (0 ∷ take m ends) c 0 ≡ literal_count c ends = sym (start-at c (take m ends)) ∙ used-alike c h in
    let end : get_or (take m ends) c 0 ≡ literal_count (c + 1) ends = get_or-take m ends c 0 h ∙ sym (end_is c ends) in
    cut_at 0 literals (take m ends) c (omega arith) ∙ ap₂ (λ (i j : ℕ). slice i j literals) start end
  where
    used-alike : (k : ℕ) → k < m → literal_count k (take m ends) ≡ literal_count k ends
    used-alike zero l = count_none 0 (take m ends) refl ∙ sym (count_none 0 ends refl)
    used-alike (suc k) l =
        let last : suc k - 1 ≡ k = omega arith in
        count-last (suc k) (take m ends) (λ e. omega arith)
        ∙ ap (λ (i : ℕ). get_or (take m ends) i 0) last
        ∙ get_or-take m ends k 0 (omega arith)
        ∙ sym (count-last (suc k) ends (λ e. omega arith) ∙ ap (λ (i : ℕ). get_or ends i 0) last)

-- `&l[a..e]` is the slice from a to e
pub part_slice : (a e : ℕ) (l : List ℕ) → a ≤ e → take (e - a) (drop a l) ≡ slice a e l
part_slice zero e l h = ap (λ (k : ℕ). take k l) (sub-zero e)
part_slice (suc a) zero l h = absurd (omega arith)
part_slice (suc a) (suc e) [] h = rw (take-nil (suc e - suc a))
part_slice (suc a) (suc e) (x ∷ l) h = let k : suc e - suc a ≡ e - a = omega arith in rw k (part_slice a e l (omega arith))
