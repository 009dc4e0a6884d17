-- Document 02, CR 5: `TheKeys` holds of whatever is lent. Assumes nothing.
use Rattle.std.proofs.Common.{Result, Ok, Err}
use Rattle.store.specs.Refusals.{said as told}
use Rattle.store.specs.declared.refusal.Refusal.{Refusal}
use mathlib.Core.Path.{◌≡◌, refl}
use mathlib.Core.List.{List}
use Prim.Native.Nat.{ℕ}
use native.Mathlib.Omega.{arith}
use Rattle.lists.specs.Writing.{overwritten}
use Rattle.store.specs.Refusals.{done}
use Rattle.store.specs.Stores.{plain_of}
use Rattle.numbers.proofs.Theorem.{well-chosen}
use Rattle.keys.specs.Keys.{keys_of}
use Rattle.keys.proofs.Counts.{key_counts}
use Rattle.keys.proofs.RightLaws.{right-long, right-at, right-all}
use Rattle.standing.specs.Keyed.{Keyed}
use Rattle.standing.proofs.StandingLaws.{ready_of, its-form, its-keys, well-formed}
use Rattle.opening.specs.Opening.{formula_of}
use Rattle.opening.specs.declared.Sizes.{Sizes}
use Rattle.symmetry.proofs.SetLaws.{same_set-iff}
use Rattle.symmetry.proofs.KeyLaws.{same_keys}
use Rattle.calls.specs.Calls.{Dimensions, accepted as yes, taken_back, opened_in, open_says, open_store, offer_says, offer_store, withdraw_says, withdraw_store}
use Rattle.demands.specs.Keys.{TheKeys}
use Rattle.demands.proofs.AfterCalls.{Ending, ending, answered, turned}
use Rattle.demands.proofs.Acceptance.{store-refused, store-accepted}
use Rattle.demands.proofs.Withdrawal.{withdrawn-refused, withdrawn-row}

module _ (s : Keyed) where
  opened-keys : (text : List ℕ) (sizes : Dimensions) → open_says s text ≡ done sizes → (open_store s text).keys ≡ overwritten (keys_of (formula_of text)) s.keys
  unfolding open_says open_store
  opened-keys text sizes said = by (opened_in s text) refl said
    where
      by : (a : Result Sizes Refusal) → opened_in s text ≡ a → told a ≡ done sizes → (open_store s text).keys ≡ overwritten (keys_of (formula_of text)) s.keys
      by (Ok o) e q = rw e
      by (Err r) e q = let z : ◌≡◌ {A = ℕ} 0 1 = cc in absurd (omega arith)

  offered-keys : (names values : List ℕ) → Ending (offer_says s names values) → (offer_store s names values).keys ≡ s.keys
  offered-keys names values (turned number place q) = rw (store-refused s names values number place q)
  offered-keys names values (answered yes q) = rw (store-accepted s names values q)

  withdrawn-keys : Ending (withdraw_says s) → (withdraw_store s).keys ≡ s.keys
  withdrawn-keys (turned number place q) = rw (withdrawn-refused s number place q)
  withdrawn-keys (answered taken_back q) = rw (withdrawn-row s q)

  pub the-keys : TheKeys s
  unfolding offer_says
  the-keys = record {
    chosen = well-chosen;
    alike = λ a b same. same_keys a b ((same_set-iff a b).1 same);
    counts = key_counts;
    opened = opened-keys;
    offered = λ names values. offered-keys names values (ending (offer_says s names values));
    withdrawn = withdrawn-keys (ending (withdraw_says s));
    form = (
      λ well. (its-form s well, record { long = right-long _ _ (its-keys s well); right = right-at _ _ (its-keys s well) }),
      λ both. well-formed s both.0 (right-all (plain_of s.store) s.keys both.1.long both.1.right),
    );
    decides = λ opened well names values. rw (ready_of s opened well);
  }
