-- A walk through one bucket of an index of a list's places, to find out whether some element passes a test that only elements of this bucket pass.
-- Assumes nothing.
use mathlib.Core.Path.{◌≡◌, sym, ap, ◌∙◌}
use mathlib.Core.Bool.{Bool, true, false}
use mathlib.Core.Logic.{⊎_elim}
use mathlib.Core.List.{List}
use Prim.Native.Nat.{ℕ, ◌+◌, ◌≤◌, ◌<◌}
use native.Mathlib.Omega.{arith}
use lib.ListN.{length, get_or, take}
use lib.Seq.{length-take-le, get_or-take, take-length}
use Rattle.lists.specs.Tests.{any_of}
use Rattle.lists.proofs.Cases.{never, bool-ext, lt-or-le, eq-or-ne}
use Rattle.lists.proofs.Members.{any_at, any-in}
use Rattle.buckets.specs.Buckets.{last_in, IndexHolds}
use Rattle.buckets.proofs.Index.{last-most, last-in, none_after}

module _ {A : Type 0} (q : A → Bool) (l : List A) (d : A) where
  -- where none of places j, .., k - 1 passes, some element of the first k does if some of the first j does
  any-front : (j k : ℕ) → j ≤ k → k ≤ length l → ((i : ℕ) → j ≤ i → i < k → q (get_or l i d) ≡ true → ⊥) → any_of q (take k l) ≡ any_of q (take j l)
  any-front j k h m none = bool-ext (any_of q (take k l)) (any_of q (take j l)) to from
    where
      sized : (i n : ℕ) → n ≤ length l → i < length (take n l) → i < n
      sized i n g f = rw (length-take-le n l g) at f

      passes : (i n : ℕ) → n ≤ length l → i < n → q (get_or l i d) ≡ true → any_of q (take n l) ≡ true
      passes i n g f e = any-in q (take n l) d i (rw (length-take-le n l g) f) (rw (get_or-take n l i d f) e)

      to : any_of q (take k l) ≡ true → any_of q (take j l) ≡ true
      to e =
          let r = any_at q (take k l) d e in
          let f : r.0 < k = sized r.0 k m r.1 in
          let p : q (get_or l r.0 d) ≡ true = rw (get_or-take k l r.0 d f) at r.2 in
          ⊎_elim (λ g. passes r.0 j (omega arith) g p) (λ g. absurd (none r.0 g f p)) (lt-or-le r.0 j)

      from : any_of q (take j l) ≡ true → any_of q (take k l) ≡ true
      from e =
          let r = any_at q (take j l) d e in
          let f : r.0 < j = sized r.0 j (omega arith) r.1 in
          passes r.0 k m (omega arith) (rw (get_or-take j l r.0 d f) at r.2)

  module _ (bucket_of : ℕ → ℕ) (b : ℕ) where
    -- `number`, from 1, is the place that comes next, 0 at the end: what passes, if anything does, is not after it
    pub record Walk (number : ℕ) : Type 0 where
      pub rest : any_of q l ≡ any_of q (take number l)
      pub within : number ≤ length l
      pub inside : (c : ℕ) → number ≡ c + 1 → bucket_of c ≡ b

    module _ (heads nexts : List ℕ) (index : IndexHolds bucket_of (length l) heads nexts) (own : (c : ℕ) → c < length l → q (get_or l c d) ≡ true → bucket_of c ≡ b) where
      pub begin : b < length heads → (number : ℕ) → number ≡ get_or heads b 0 → Walk number
      begin h number e =
          let k : ℕ = length l in
          let at : number ≡ last_in bucket_of k b = e ∙ index.head b h in
          let most : number ≤ k = omega (arith, last-most bucket_of k b) in
          record {
            rest = ap (any_of q) (sym (take-length l)) ∙ any-front number k most (omega arith) (λ i f g p. none_after bucket_of k b i (omega arith) g (own i g p));
            within = most;
            inside = λ c f. last-in bucket_of k b c (sym at ∙ f);
          }

      pub go_on : (number c : ℕ) → Walk number → number ≡ c + 1 → q (get_or l c d) ≡ false → (then : ℕ) → then ≡ get_or nexts c 0 → Walk then
      go_on number c w e miss then f =
          let here : bucket_of c ≡ b = w.inside c e in
          let low : c < length l = omega (arith, w.within) in
          let at : then ≡ last_in bucket_of c b = f ∙ index.next c low ∙ ap (last_in bucket_of c) here in
          let most : then ≤ c = omega (arith, last-most bucket_of c b) in
          record {
            rest = w.rest ∙ any-front then number (omega arith) w.within (λ i g h p.
                ⊎_elim (λ s. never (sym miss ∙ rw s at p)) (λ n. none_after bucket_of c b i (omega arith) (omega arith) (own i (omega (arith, w.within)) p)) (eq-or-ne i c));
            within = omega arith;
            inside = λ k g. last-in bucket_of c b k (sym at ∙ g);
          }

    pub hit : (number c : ℕ) → Walk number → number ≡ c + 1 → q (get_or l c d) ≡ true → any_of q l ≡ true
    hit number c w e p = any-in q l d c (omega (arith, w.within)) p

    pub end : (number : ℕ) → Walk number → number ≡ 0 → any_of q l ≡ false
    unfolding any_of
    end number w e = w.rest ∙ rw e
