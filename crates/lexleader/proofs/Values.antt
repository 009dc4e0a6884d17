-- What a run of variables reads. Assumes nothing.
use mathlib.Core.Path.{◌≡◌, refl, sym, ap, ◌∙◌}
use mathlib.Core.Bool.{Bool, true, false, ◌&&◌, beq, and_assoc}
use mathlib.Core.List.{List, [], ◌∷◌, ◌++◌}
use mathlib.Core.Logic.{◌↔◌}
use Prim.Native.Nat.{ℕ, zero, suc, ◌+◌, ◌-◌, ◌<◌, zero-le, suc-le-suc}
use native.Mathlib.Nat.{add-zero, not-suc-le-zero, le_of_suc-le-suc}
use native.Mathlib.Omega.{arith}
use lib.ListN.{length, get_or}
use lib.Seq.{ext_get_or, get_or-append-add}
use Rattle.lists.proofs.Cases.{never, and_l, and_r, and_both}
use Rattle.packed.specs.Order.{value_of}

-- the variables from e on have the values given
unfoldable pub reads : (ℕ → Bool) → ℕ → List Bool → Bool
reads v e [] = true
reads v e (b ∷ values) = beq (v e) b && reads v (e + 1) values

beq-iff : (a b : Bool) → (beq a b ≡ true) ↔ (a ≡ b)
beq-iff true true = (λ e. refl, λ e. refl)
beq-iff true false = (never, sym)
beq-iff false true = (never, λ e. e)
beq-iff false false = (λ e. refl, λ e. refl)

module _ (v : ℕ → Bool) where
  pub reads-append : (e : ℕ) (s t : List Bool) → reads v e (s ++ t) ≡ (reads v e s && reads v (e + length s) t)
  unfolding reads
  reads-append e [] t = rw add-zero
  reads-append e (b ∷ s) t =
      let next : e + 1 + length s ≡ e + suc (length s) = omega arith in
      rw (reads-append (e + 1) s t, next) (sym (and_assoc (beq (v e) b) (reads v (e + 1) s) (reads v (e + suc (length s)) t)))

  reads_at : (e : ℕ) (values : List Bool) → reads v e values ≡ true → (j : ℕ) → j < length values → v (e + j) ≡ get_or values j false
  unfolding reads
  reads_at e [] h j l = absurd (not-suc-le-zero l)
  reads_at e (b ∷ values) h zero l = rw add-zero ((beq-iff (v e) b).0 (and_l (beq (v e) b) (reads v (e + 1) values) h))
  reads_at e (b ∷ values) h (suc j) l =
      let next : e + suc j ≡ e + 1 + j = omega arith in
      rw next (reads_at (e + 1) values (and_r (beq (v e) b) (reads v (e + 1) values) h) j (le_of_suc-le-suc l))

  at_reads : (e : ℕ) (values : List Bool) → ((j : ℕ) → j < length values → v (e + j) ≡ get_or values j false) → reads v e values ≡ true
  unfolding reads
  at_reads e [] f = refl
  at_reads e (b ∷ values) f =
      and_both ((beq-iff (v e) b).1 (rw add-zero at (f 0 (suc-le-suc zero-le))))
      (at_reads (e + 1) values (λ j l. let next : e + 1 + j ≡ e + suc j = omega arith in rw next (f (suc j) (suc-le-suc l))))

-- the variables behind n others
pub reads-behind : (n : ℕ) (a t values : List Bool) → length a ≡ n → length t ≡ length values
    → (reads (value_of (a ++ t)) (n + 1) values ≡ true) ↔ (t ≡ values)
reads-behind n a t values size l = (
  λ h. ext_get_or false t values l (λ j k. sym (behind j) ∙ reads_at (value_of (a ++ t)) (n + 1) values h j (omega arith)),
  λ e. at_reads (value_of (a ++ t)) (n + 1) values (λ j k. behind j ∙ ap (λ (s : List Bool). get_or s j false) e),
)
  where
    behind : (j : ℕ) → value_of (a ++ t) (n + 1 + j) ≡ get_or t j false
    behind j = let place : n + 1 + j - 1 ≡ length a + j = omega arith in rw place (get_or-append-add a t j false)
