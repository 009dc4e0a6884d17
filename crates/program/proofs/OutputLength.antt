-- No output is longer than `max_output`: a well-formed store has so many clauses at most, and none of them has a longer line. Assumes nothing.
use mathlib.Core.Path.{◌≡◌, refl}
use mathlib.Core.Bool.{true}
use mathlib.Core.List.{List, [], ◌∷◌, Memᴰ}
use Prim.Native.Nat.{ℕ, ◌*◌, ◌≤◌}
use native.Mathlib.Nat.{mul-le-mul_right}
use native.Mathlib.Omega.{arith}
use lib.ListN.{length, length-append}
use Rattle.store.specs.Refusals.{Said, done, refused}
use Rattle.store.specs.Stores.{Store, is_formed}
use Rattle.standing.specs.Keyed.{Keyed}
use Rattle.standing.proofs.StandingLaws.{its-form}
use Rattle.lexleader.specs.Store.{made_of, clauses_of}
use Rattle.lexleader.proofs.StoreBounds.{clauses-most}
use Rattle.render.specs.Text.{clause_line}
use Rattle.render.proofs.LineLaws.{length-refusal}
use Rattle.render.proofs.DigitLaws.{digits-most}
use Rattle.emit.specs.Emit.{header_of, lines_of, text_of, max_line}
use Rattle.emit.proofs.Bounds.{header-most, line-longest}
use Rattle.calls.specs.Calls.{Accepted}
use Rattle.session.specs.Session.{session_of}
use Rattle.session.proofs.Theorem.{ready-formed}
use Rattle.program.specs.Program.{printed_by, output_of, max_output}

lines-length : (clauses : List (List ℕ)) → ((clause : List ℕ) → Memᴰ clause clauses → length (clause_line clause) ≤ max_line) → length (lines_of clauses) ≤ length clauses * max_line
unfolding lines_of
lines-length [] h = omega arith
lines-length (clause ∷ clauses) h =
    let rest = lines-length clauses (λ c m. h c (Memᴰ.tail m)) in
    omega (arith, length-append (clause_line clause) (lines_of clauses), h clause (Memᴰ.head refl), rest)

text-length : (s : Store) → is_formed s ≡ true → length (text_of s) ≤ max_output
unfolding text_of clauses_of
text-length s e =
    omega (
      arith,
      length-append (header_of s) (lines_of (made_of s)),
      header-most s e,
      lines-length (made_of s) (line-longest s e),
      mul-le-mul_right max_line (clauses-most s e),
    )

-- for every input, in every store
pub output-length : (s : Keyed) (input : List ℕ) → length (output_of s input) ≤ max_output
unfolding output_of
output-length s input = by (session_of s input).said refl
  where
    by : (said : Said Accepted) → (session_of s input).said ≡ said → length (printed_by said (session_of s input).store.store) ≤ max_output
    by (done u) e = text-length (session_of s input).store.store (its-form _ (ready-formed s input e).formed)
    by (refused number place) e = omega (arith, length-refusal number place, digits-most number, digits-most place)
