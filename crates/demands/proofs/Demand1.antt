-- Demand 1 holds: each call by its reasons one after another (Refusing.antt), opening and offers in files of their own. Assumes nothing.
use Rattle.std.proofs.Common.{Result, Ok, Err}
use Rattle.store.specs.Refusals.{said as told}
use Rattle.store.specs.declared.refusal.Refusal.{Refusal}
use mathlib.Core.Path.{◌≡◌, refl, sym, ◌∙◌}
use mathlib.Core.Bool.{Bool, true, false, cond, not, ◌&&◌}
use mathlib.Core.List.{List, [], ◌∷◌}
use mathlib.Core.Logic.{inl, inr, ⊎_elim}
use Prim.Native.Nat.{ℕ}
use native.Mathlib.Omega.{arith}
use borrow.Author.Tests.{eqb-true, eqb-false, ltb-true, ltb-false, leb-true, leb-false, le-leb, lt-leb}
use lib.ListN.{length}
use lib.Dec.{eqb, ltb, leb}
use Rattle.lists.proofs.Cases.{never}
use Rattle.packed.specs.Words.{max_words, word_count, is_assignment}
use Rattle.quality.specs.Efficiency.{max_labelled, has_efficiency}
use Rattle.store.specs.Refusals.{Said, done, refused}
use Rattle.standing.specs.Keyed.{Keyed}
use Rattle.lexleader.specs.Store.{variables_of, clauses_of}
use Rattle.emit.specs.Emit.{header_of, line_of, written_if, header_by, clause_by}
use Rattle.opening.specs.declared.Sizes.{Sizes}
use Rattle.calls.specs.Calls.{taken_back, opened_in, open_says, open_store, withdraw_says, figures_says, header_says, header_leaves, clause_says, clause_leaves, compare_says, fill_says, fill_leaves, check_says, descend_says, descend_leaves, efficiency_says}
use Rattle.demands.specs.Reasons.{Reason, bad_assignment, no_such_clause, too_short, withdraw_reasons, figures_reasons, header_reasons, clause_reasons, fill_reasons, check_reasons, descend_reasons, compare_reasons, efficiency_reasons}
use Rattle.demands.specs.Demand1.{Unchanged, Demand1}
use Rattle.demands.proofs.Acceptance.{store-refused}
use Rattle.demands.proofs.Withdrawal.{withdrawn-refused}
use Rattle.demands.proofs.OpenRefusals.{open-exact, problem-line}
use Rattle.demands.proofs.OfferRefusals.{offer-exact}
use Rattle.demands.proofs.Refusing.{Exact, same-said, answers, held, missed, where-true, where-false, too_short_lem, on_store_lem}

-- 12, and what comes after it
wrong-form : {Values : Type 0} {said : Said Values} {reasons : List Reason} (n : ℕ) (a : List ℕ) → Exact reasons said
    → Exact (bad_assignment n a ∷ reasons) (cond (is_assignment n a) said (refused 12 0))
wrong-form n a rest = where-false (is_assignment n a) (λ bad. (bad, rw bad)) (λ good. (λ bad. never (sym bad ∙ good), same-said (rw good) rest))

-- ---- withdraw

withdraw-exact : (s : Keyed) → Exact (withdraw_reasons s) (withdraw_says s)
unfolding withdraw_says
withdraw-exact s =
    on_store_lem s
    (where-true (eqb s.store.counts.rows 0)
    (λ none. (eqb-true s.store.counts.rows 0 none, rw none))
    (λ some. (eqb-false s.store.counts.rows 0 some, answers {v = taken_back} (rw some))))

-- ---- figures, header and clause

figures-exact : (s : Keyed) → Exact (figures_reasons s) (figures_says s)
unfolding figures_says
figures-exact s = on_store_lem s (answers refl)

line-exact : (line : List ℕ) (room : ℕ) → Exact (too_short (length line) room ∷ []) (written_if line room)
unfolding written_if
line-exact line room = too_short_lem (length line) (length line) room (λ h. rw (le-leb (length line) room h)) (λ h. rw (lt-leb (length line) room h))

header-exact : (s : Keyed) (room : ℕ) → Exact (header_reasons s room) (header_says s room)
unfolding header_says header_by
header-exact s room = on_store_lem s (line-exact (header_of s.store) room)

clause-exact : (s : Keyed) (q room : ℕ) → Exact (clause_reasons s q room) (clause_says s q room)
unfolding clause_says clause_by
clause-exact s q room = on_store_lem s (by (eqb q 0) refl (ltb (clauses_of s.store) q) refl)
  where
    by : (zero : Bool) → eqb q 0 ≡ zero → (above : Bool) → ltb (clauses_of s.store) q ≡ above
        → Exact
        (no_such_clause s.store q ∷ too_short (length (line_of s.store q)) room ∷ [])
        (cond zero (refused 13 0) (cond above (refused 13 0) (written_if (line_of s.store q) room)))
    by true e above f = held (inl (eqb-true q 0 e)) refl
    by false e true f = held (inr (ltb-true (clauses_of s.store) q f)) refl
    by false e false f = missed (⊎_elim (eqb-false q 0 e) (λ h. omega (arith, ltb-false (clauses_of s.store) q f))) (line-exact (line_of s.store q) room)

-- ---- assignments

fill-exact : (s : Keyed) (a : List ℕ) (room : ℕ) → Exact (fill_reasons s a room) (fill_says s a room)
unfolding fill_says
fill-exact s a room =
    let needed = word_count (variables_of s.store) in
    on_store_lem s (wrong-form s.store.counts.variables a (too_short_lem needed needed room (λ h. rw (le-leb needed room h)) (λ h. rw (lt-leb needed room h))))

check-exact : (s : Keyed) (a : List ℕ) → Exact (check_reasons s a) (check_says s a)
unfolding check_says
check-exact s a = on_store_lem s (wrong-form (variables_of s.store) a (answers refl))

descend-exact : (s : Keyed) (a : List ℕ) (limit : ℕ) → Exact (descend_reasons s a) (descend_says s a limit)
unfolding descend_says
descend-exact s a limit = on_store_lem s (wrong-form s.store.counts.variables a (answers refl))

compare_exact : (a b : List ℕ) → Exact (compare_reasons a b) (compare_says a b)
unfolding compare_says
compare_exact a b = by _ (eqb (length a) (length b)) refl (leb (length a) max_words) refl
  where
    by : (v : ℕ) (equal : Bool) → eqb (length a) (length b) ≡ equal → (few : Bool) → leb (length a) max_words ≡ few
        → Exact (compare_reasons a b) (cond (equal && few) (done v) (refused 12 0))
    by v true e true f = missed (⊎_elim (λ n. n (eqb-true (length a) (length b) e)) (λ h. omega (arith, leb-true (length a) max_words f))) (answers refl)
    by v true e false f = held (inr (leb-false (length a) max_words f)) refl
    by v false e few f = held (inl (eqb-false (length a) (length b) e)) refl

-- ---- the figure

efficiency-exact : (labelled unlabelled allowed : ℕ) → Exact (efficiency_reasons labelled unlabelled allowed) (efficiency_says labelled unlabelled allowed)
unfolding efficiency_says has_efficiency
efficiency-exact labelled unlabelled allowed =
    by _ (leb unlabelled allowed) refl (leb allowed labelled) refl (eqb labelled unlabelled) refl (leb labelled max_labelled) refl
  where
    by : (v : ℕ) (low : Bool) → leb unlabelled allowed ≡ low → (high : Bool) → leb allowed labelled ≡ high → (equal : Bool) → eqb labelled unlabelled ≡ equal
        → (small : Bool) → leb labelled max_labelled ≡ small
        → Exact (efficiency_reasons labelled unlabelled allowed) (cond (low && high && not equal && small) (done v) (refused 14 0))
    by v false l high h equal e small t = held (inl (λ k. omega (arith, leb-false unlabelled allowed l, k.0))) refl
    by v true l false h equal e small t = held (inl (λ k. omega (arith, leb-false allowed labelled h, k.1))) refl
    by v true l true h true e small t = held (inr (inl (eqb-true labelled unlabelled e))) refl
    by v true l true h false e false t = held (inr (inr (leb-false labelled max_labelled t))) refl
    by v true l true h false e true t =
        missed
        (⊎_elim
        (λ n. n (leb-true unlabelled allowed l, leb-true allowed labelled h))
        (⊎_elim (eqb-false labelled unlabelled e) (λ k. omega (arith, leb-true labelled max_labelled t))))
        (answers refl)

-- ---- what a refusal leaves

open-leaves : (s : Keyed) (text : List ℕ) → Unchanged (open_says s text) s (open_store s text)
unfolding open_says open_store
open-leaves s text number place said = by (opened_in s text) refl said
  where
    by : (a : Result Sizes Refusal) → opened_in s text ≡ a → told a ≡ refused number place → open_store s text ≡ s
    by (Ok o) e q = let z : ◌≡◌ {A = ℕ} 0 1 = cc in absurd (omega arith)
    by (Err r) e q = rw e

pub demand-1 : Demand1
unfolding header_leaves clause_leaves fill_leaves descend_leaves
demand-1 = record {
  open-refuses = λ s text. (open-exact s text).iff;
  problem-line = problem-line;
  open-leaves = open-leaves;
  offer-refuses = λ s names values. (offer-exact s names values).iff;
  offer-leaves = store-refused;
  withdraw-refuses = λ s. (withdraw-exact s).iff;
  withdraw-leaves = withdrawn-refused;
  header-refuses = λ s room. (header-exact s room).iff;
  header-leaves = λ s out number place e. rw e;
  clause-refuses = λ s q room. (clause-exact s q room).iff;
  clause-leaves = λ s q out number place e. rw e;
  fill-refuses = λ s a room. (fill-exact s a room).iff;
  fill-leaves = λ s a out number place e. rw e;
  figures-refuses = λ s. (figures-exact s).iff;
  check-refuses = λ s a. (check-exact s a).iff;
  descend-refuses = λ s a limit. (descend-exact s a limit).iff;
  descend-leaves = λ s a limit number place e. rw e;
  compare-refuses = λ a b. (compare_exact a b).iff;
  efficiency-refuses = λ labelled unlabelled allowed. (efficiency-exact labelled unlabelled allowed).iff;
}
