-- What three counts are that have an efficiency. Assumes nothing.
use mathlib.Core.Path.{◌≡◌, sym}
use mathlib.Core.Bool.{true, not, ◌&&◌}
use Prim.Native.Nat.{ℕ, ◌≤◌, ◌<◌}
use borrow.Author.Tests.{leb-true, eqb-false, not-true}
use native.Mathlib.Omega.{arith}
use lib.Arith.{lt_of_le-ne}
use lib.Dec.{eqb, leb}
use Rattle.lists.proofs.Cases.{and_l, and_r}
use Rattle.quality.specs.Efficiency.{max_labelled, has_efficiency}

module _ (labelled unlabelled allowed : ℕ) where
  pub record Counts : Type 0 where
    pub at_least : unlabelled ≤ allowed
    pub at_most : allowed ≤ labelled
    pub broken : unlabelled < labelled
    pub limit : labelled ≤ max_labelled

  pub counts : has_efficiency labelled unlabelled allowed ≡ true → Counts
  unfolding has_efficiency
  counts e =
      let three = and_l (leb unlabelled allowed && leb allowed labelled && not (eqb labelled unlabelled)) (leb labelled max_labelled) e in
      let two = and_l (leb unlabelled allowed && leb allowed labelled) (not (eqb labelled unlabelled)) three in
      let at_least : unlabelled ≤ allowed = leb-true _ _ (and_l (leb unlabelled allowed) (leb allowed labelled) two) in
      let at_most : allowed ≤ labelled = leb-true _ _ (and_r (leb unlabelled allowed) (leb allowed labelled) two) in
      let other = eqb-false labelled unlabelled (not-true _ (and_r (leb unlabelled allowed && leb allowed labelled) (not (eqb labelled unlabelled)) three)) in
      record {
        at_least = at_least;
        at_most = at_most;
        broken = lt_of_le-ne (omega arith) (λ q. other (sym q));
        limit = leb-true _ _ (and_r (leb unlabelled allowed && leb allowed labelled && not (eqb labelled unlabelled)) (leb labelled max_labelled) e);
      }
