-- Right keys, clause by clause: a loop from clause c on, and what is known where all are right. Assumes nothing.
use Rattle.std.proofs.Common.{◌≡◌, ℕ, zero, suc, ◌+◌, ◌<◌, ◌≤◌, Bool, true, false, ◌&&◌, eqb, List, [], ◌∷◌, ◌++◌, length, get_or, drop, refl, suc-le-suc, zero-le, le_of_suc-le-suc, not-suc-le-zero, drop_of_length-le, eq-eqb, ne_eqb, eqb-true}
use Rattle.lists.proofs.Cases.{never, and_l, and_r, and_both}
use Rattle.lists.proofs.Steps.{drop-step}
use Rattle.keys.specs.Keys.{key_of, keys_of, right_keys}

pub right-short : (formula : List (List ℕ)) (keys : List ℕ) → length keys < length formula → right_keys formula keys ≡ false
unfolding right_keys
right-short [] keys h = absurd (not-suc-le-zero h)
right-short (clause ∷ formula) [] h = refl
right-short (clause ∷ formula) (key ∷ keys) h = go (eqb key (key_of clause)) (right-short formula keys (le_of_suc-le-suc h))
  where
    go : (b : Bool) {d : Bool} → d ≡ false → (b && d) ≡ false
    go true e = e
    go false e = refl

module _ (formula : List (List ℕ)) (keys : List ℕ) (c : ℕ) where
  module _ (h : c < length formula) (k : c < length keys) where
    pub right-here : get_or keys c 0 ≡ key_of (get_or formula c []) → right_keys (drop c formula) (drop c keys) ≡ right_keys (drop (c + 1) formula) (drop (c + 1) keys)
    unfolding right_keys
    right-here e = rw (drop-step formula c [] h, drop-step keys c 0 k, eq-eqb _ _ e)

    pub wrong-here : (get_or keys c 0 ≡ key_of (get_or formula c []) → ⊥) → right_keys (drop c formula) (drop c keys) ≡ false
    unfolding right_keys
    wrong-here n = rw (drop-step formula c [] h, drop-step keys c 0 k, ne_eqb _ _ n)

  pub right_end : length formula ≤ c → right_keys (drop c formula) (drop c keys) ≡ true
  unfolding right_keys
  right_end h = rw (drop_of_length-le formula {i = c} h)

-- ---- where all are right

pub right-long : (formula : List (List ℕ)) (keys : List ℕ) → right_keys formula keys ≡ true → length formula ≤ length keys
unfolding right_keys
right-long [] keys e = zero-le
right-long (clause ∷ formula) [] e = never e
right-long (clause ∷ formula) (key ∷ keys) e = suc-le-suc (right-long formula keys (and_r (eqb key (key_of clause)) (right_keys formula keys) e))

pub right-at : (formula : List (List ℕ)) (keys : List ℕ) → right_keys formula keys ≡ true → (c : ℕ) → c < length formula → get_or keys c 0 ≡ key_of (get_or formula c [])
unfolding right_keys
right-at [] keys e c h = absurd (not-suc-le-zero h)
right-at (clause ∷ formula) [] e c h = never e
right-at (clause ∷ formula) (key ∷ keys) e zero h = eqb-true key (key_of clause) (and_l (eqb key (key_of clause)) (right_keys formula keys) e)
right-at (clause ∷ formula) (key ∷ keys) e (suc c) h = right-at formula keys (and_r (eqb key (key_of clause)) (right_keys formula keys) e) c (le_of_suc-le-suc h)

pub right-all : (formula : List (List ℕ)) (keys : List ℕ) → length formula ≤ length keys → ((c : ℕ) → c < length formula → get_or keys c 0 ≡ key_of (get_or formula c []))
    → right_keys formula keys ≡ true
unfolding right_keys
right-all [] keys h at = refl
right-all (clause ∷ formula) [] h at = absurd (not-suc-le-zero h)
right-all (clause ∷ formula) (key ∷ keys) h at =
    and_both (eq-eqb key (key_of clause) (at 0 (suc-le-suc zero-le))) (right-all formula keys (le_of_suc-le-suc h) (λ c l. at (suc c) (suc-le-suc l)))

-- what is written is right
pub written-right : (formula : List (List ℕ)) (past : List ℕ) → right_keys formula (keys_of formula ++ past) ≡ true
unfolding right_keys
written-right [] past = refl
written-right (clause ∷ formula) past = rw (eq-eqb (key_of clause) (key_of clause) refl) (written-right formula past)
