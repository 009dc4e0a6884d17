-- The scan of the words after the problem line: one law for each way through its loop. Assumes nothing.
use mathlib.Core.Path.{◌≡◌}
use mathlib.Core.List.{List, [], ◌∷◌}
use Prim.Native.Nat.{ℕ, ◌+◌, ◌≤◌, ◌<◌}
use borrow.Author.Tests.{eq-eqb, ne_eqb, lt-ltb, le-ltb}
use Rattle.std.proofs.Common.{Ok, Err}
use Rattle.dimacs.specs.Words.{Piece}
use Rattle.dimacs.specs.Numbers.{Numeral, numeral_of}
use Rattle.dimacs.specs.declared.Number.{Number}
use Rattle.store.specs.Stores.{max_literals}
use Rattle.store.specs.Numerals.{code_in}
use Rattle.store.specs.declared.refusal.Refusal.{Refusal}
use Rattle.opening.specs.Clauses.{scan_from}
use Rattle.opening.proofs.CodeLaws.{coded}

module _ (end n m closed count : ℕ) (ws : List Piece) where
  pub scan-done : ws ≡ [] → closed ≡ m → scan_from end n m closed count ws ≡ Ok count
  unfolding scan_from
  scan-done e k = rw (e, eq-eqb closed m k)

  pub scan-short : ws ≡ [] → (closed ≡ m → ⊥) → scan_from end n m closed count ws ≡ Err (Refusal.ClauseCount end)
  unfolding scan_from
  scan-short e k = rw (e, ne_eqb closed m k)

  module _ (w : Piece) (rest : List Piece) (e : ws ≡ w ∷ rest) where
    pub scan-extra : closed ≡ m → scan_from end n m closed count ws ≡ Err (Refusal.ClauseCount w.place)
    unfolding scan_from
    scan-extra k = rw (e, eq-eqb closed m k)

    module _ (more : closed ≡ m → ⊥) where
      pub scan-word : numeral_of w.bytes ≡ Numeral.Not → scan_from end n m closed count ws ≡ Err (Refusal.NotNumber w.place)
      unfolding scan_from
      scan-word k = rw (e, ne_eqb closed m more, k)

      module _ (x : Number) (is : numeral_of w.bytes ≡ Numeral.Is x) where
        pub scan-close : x.size ≡ 0 → scan_from end n m closed count ws ≡ scan_from end n m (closed + 1) count rest
        unfolding scan_from
        scan-close z = rw (e, ne_eqb closed m more, is, eq-eqb (code_in w) 0 ((coded w x is).zero z))

        module _ (literal : x.size ≡ 0 → ⊥) where
          pub scan-beyond : n < x.size → scan_from end n m closed count ws ≡ Err (Refusal.LiteralBeyond w.place)
          unfolding scan_from
          scan-beyond h =
              rw (e, ne_eqb closed m more, is, ne_eqb (code_in w) 0 ((coded w x is).other literal), (coded w x is).variable, lt-ltb n x.size h)

          pub scan-many : x.size ≤ n → count ≡ max_literals → scan_from end n m closed count ws ≡ Err (Refusal.TooManyLiterals w.place)
          unfolding scan_from
          scan-many h k =
              rw (
                e,
                ne_eqb closed m more,
                is,
                ne_eqb (code_in w) 0 ((coded w x is).other literal),
                (coded w x is).variable,
                le-ltb n x.size h,
                eq-eqb count max_literals k,
              )

          pub scan-literal : x.size ≤ n → (count ≡ max_literals → ⊥) → scan_from end n m closed count ws ≡ scan_from end n m closed (count + 1) rest
          unfolding scan_from
          scan-literal h k =
              rw (
                e,
                ne_eqb closed m more,
                is,
                ne_eqb (code_in w) 0 ((coded w x is).other literal),
                (coded w x is).variable,
                le-ltb n x.size h,
                ne_eqb count max_literals k,
              )
