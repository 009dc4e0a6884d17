-- The words of a body, comments left out: each stands in the lent text at its place, so that the place of a refusal is an offset there. Assumes nothing.
use mathlib.Core.Path.{◌≡◌, refl}
use mathlib.Core.List.Memᴰ
use mathlib.Core.List.{List, Memᴰ}
use Prim.Native.Nat.{ℕ}
use Rattle.dimacs.specs.Words.{Piece}
use Rattle.comments.proofs.Walk.{Stands, stands}
use Rattle.std.proofs.Common.{Result, Ok, Err}
use Rattle.store.specs.declared.refusal.Refusal.{Refusal}
use Rattle.opening.specs.Problem.{problem_of}
use Rattle.opening.specs.Opening.{body_of}
use Rattle.opening.specs.declared.Problem.{Problem}
use Rattle.opening.proofs.OpeningLaws.{body-past}

pub body-stands : (text : List ℕ) (w : Piece) → Memᴰ w (body_of text) → Stands text w
unfolding body_of
body-stands text w member = by (problem_of text) refl
  where
    by : (p : Result Problem Refusal) → problem_of text ≡ p → Stands text w
    by (Err r) e = absurd (Memᴰ.not-nil (rw e at member))
    by (Ok p) e = stands text w p.end (rw (body-past text p e) at member)
