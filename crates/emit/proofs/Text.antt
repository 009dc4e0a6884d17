-- The text of a made formula is its header followed by the lines of clauses 1 to M. Assumes nothing.
use mathlib.Core.Path.{◌≡◌, refl, sym, ap, ◌∙◌}
use mathlib.Core.List.{List, [], ◌∷◌, ◌++◌, append_assoc}
use Prim.Native.Nat.{ℕ, zero, suc, ◌+◌, ◌-◌}
use native.Mathlib.Omega.{arith}
use lib.ListN.{length, length-append}
use lib.Seq.{get_or-append_seam}
use Rattle.store.specs.Stores.{Store}
use Rattle.render.specs.Text.{clause_line}
use Rattle.lexleader.specs.Store.{made_of, clauses_of}
use Rattle.emit.specs.Emit.{header_of, line_of, lines_of, text_of}

-- the lines of clauses q, q + 1, .., k of them
unfoldable pub lines_from : Store → ℕ → ℕ → List ℕ
lines_from s q zero = []
lines_from s q (suc k) = line_of s q ++ lines_from s (q + 1) k

lines-of : (s : Store) (before clauses : List (List ℕ)) → made_of s ≡ before ++ clauses → lines_from s (length before + 1) (length clauses) ≡ lines_of clauses
unfolding lines_from lines_of line_of
lines-of s before [] e = refl
lines-of s before (clause ∷ clauses) e =
    let here : length before + 1 - 1 ≡ length before = omega arith in
    let next : length before + 1 + 1 ≡ length (before ++ (clause ∷ [])) + 1 = omega (arith, length-append before (clause ∷ [])) in
    rw (here, e, get_or-append_seam before clause clauses [])
    (ap (λ (rest : List ℕ). clause_line clause ++ rest)
    (ap (λ (k : ℕ). lines_from s k (length clauses)) next ∙ lines-of s (before ++ (clause ∷ [])) clauses (e ∙ sym (append_assoc before (clause ∷ []) clauses))))

-- Demand 2: the text written is exactly the plain formula followed by the documented clauses; header and clauses 1 to M give the rendering of the made
-- formula, whose N and M the header counts.
pub text-is-plain-then-documented : (s : Store) → header_of s ++ lines_from s 1 (clauses_of s) ≡ text_of s
unfolding text_of clauses_of
text-is-plain-then-documented s = ap (λ (rest : List ℕ). header_of s ++ rest) (lines-of s [] (made_of s) refl)
