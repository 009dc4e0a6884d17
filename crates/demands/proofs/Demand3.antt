-- Demand 3 holds: for every lent store and text for which opening answers, and every list of calls from there, refused ones included. The theory of kept
-- models (lexleader/proofs/Theorems.antt) meets the store that the list leaves (AfterCalls.antt) and the calls on words. Assumes nothing.
use Rattle.std.proofs.Common.{Result, Ok, Err}
use Rattle.store.specs.declared.refusal.Refusal.{Refusal}
use mathlib.Core.Path.{◌≡◌, refl, sym, ap, ◌∙◌}
use mathlib.Core.Bool.{Bool, true, false, cond}
use mathlib.Core.List.{List, ◌++◌}
use Prim.Native.Nat.{ℕ}
use native.Mathlib.Omega.{arith}
use lib.ListN.{length, take, drop}
use lib.Seq.{take-append_seam}
use lib.Dec.{leb}
use Rattle.lists.specs.Tests.{all_of}
use Rattle.packed.specs.Words.{bits_of, word_count, words_of, is_assignment}
use Rattle.packed.proofs.Form.{form-count}
use Rattle.packed.proofs.Trips.{bits-words, words-form}
use Rattle.store.specs.Literals.{is_literal}
use Rattle.store.specs.Refusals.{done, refused}
use Rattle.store.specs.Stores.{Store, held_rows, is_row}
use Rattle.standing.proofs.StandingLaws.{its-form}
use Rattle.standing.specs.Keyed.{Keyed, standing_of}
use Rattle.store.proofs.Formed.{formed}
use Rattle.store.proofs.Demands.{rows-of}
use Rattle.store.proofs.Within.{literals-within}
use Rattle.lexleader.specs.Made.{made, made_variables, settings, filled_in}
use Rattle.lexleader.specs.Models.{Model}
use Rattle.lexleader.specs.Kept.{Completes, Symmetric}
use Rattle.lexleader.specs.Descent.{Ending, settled, spent, descend}
use Rattle.lexleader.proofs.Theorems.{kept-iff, one-setting, filled-completes, carried-to-kept, satisfiable-iff, settled-kept}
use Rattle.lexleader.specs.Store.{made_of, variables_of}
use Rattle.filling.specs.Written.{filled_words}
use Rattle.filling.proofs.Runs.{length-filled}
use Rattle.checking.specs.Checking.{yes}
use Rattle.descent.specs.Words.{settled_after, answer_of, descended}
use Rattle.calls.specs.Calls.{Dimensions, open_says, on_store, fill_says, fill_leaves, check_says, descend_says, descend_leaves}
use Rattle.demands.specs.Lists.{Call}
use Rattle.demands.specs.Demand3.{variables, formula, permutations, left, Demand3}
use Rattle.demands.proofs.AfterCalls.{same-variables, after-opening}
use Rattle.demands.proofs.Checks.{yes-is-model}

-- ---- what a call that answered says of the store and the words

-- filling in answered, so its count of words is that of N
fill-count : (s : Keyed) (a : List ℕ) (room k : ℕ) → fill_says s a room ≡ done k → k ≡ word_count (variables_of s.store)
unfolding fill_says
fill-count s a room k e = by (standing_of s) (is_assignment s.store.counts.variables a) (leb (word_count (variables_of s.store)) room) e
  where
    by : (standing : Result Store Refusal) (form fits : Bool)
        → on_store standing (cond form (cond fits (done (word_count (variables_of s.store))) (refused 23 (word_count (variables_of s.store)))) (refused 12 0)) ≡ done k
        → k ≡ word_count (variables_of s.store)
    by (Ok u) true true e = cc
    by (Ok u) true false e = let z : ◌≡◌ {A = ℕ} 0 1 = cc in absurd (omega arith)
    by (Ok u) false fits e = let z : ◌≡◌ {A = ℕ} 0 1 = cc in absurd (omega arith)
    by (Err r) form fits e = let z : ◌≡◌ {A = ℕ} 0 1 = cc in absurd (omega arith)

-- the words that it wrote
fill-wrote : (s : Keyed) (a out : List ℕ) (k : ℕ) → fill_says s a (length out) ≡ done k
    → take k (fill_leaves s a out) ≡ words_of (filled_in (held_rows s.store) (bits_of s.store.counts.variables a))
unfolding fill_leaves filled_words variables_of
fill-wrote s a out k e =
    let bits = filled_in (held_rows s.store) (bits_of s.store.counts.variables a) in
    let size : length (words_of bits) ≡ word_count (variables_of s.store) =
    form-count (length bits) (words_of bits) (words-form bits) ∙ ap word_count (length-filled s.store.counts.variables (held_rows s.store) a) in
    let count : k ≡ length (words_of bits) = fill-count s a (length out) k e ∙ sym size in
    rw (e, count) (take-append_seam (words_of bits) (drop (length (words_of bits)) out))

-- a descent answered settled, so it settled, and left what it reached
record Settles (s : Keyed) (a : List ℕ) (limit moves : ℕ) : Type 0 where
  reached : List Bool
  ends : descend limit (held_rows s.store) (bits_of s.store.counts.variables a) ≡ settled moves reached
  leaves : descend_leaves s a limit ≡ words_of reached

descend-settled : (s : Keyed) (a : List ℕ) (limit moves : ℕ) → descend_says s a limit ≡ done (settled_after moves) → Settles s a limit moves
unfolding descend_says descend_leaves descended
descend-settled s a limit moves e =
    by (standing_of s) refl (is_assignment s.store.counts.variables a) refl (descend limit (held_rows s.store) (bits_of s.store.counts.variables a)) refl e
  where
    by : (standing : Result Store Refusal) → standing_of s ≡ standing → (form : Bool) → is_assignment s.store.counts.variables a ≡ form
        → (ending : Ending) → descend limit (held_rows s.store) (bits_of s.store.counts.variables a) ≡ ending
        → on_store standing (cond form (done (answer_of ending)) (refused 12 0)) ≡ done (settled_after moves) → Settles s a limit moves
    by (Ok u) p true q (settled count b) d e =
        let same : count ≡ moves = cc in
        record { reached = b; ends = d ∙ ap (λ (m : ℕ). settled m b) same; leaves = rw (p, q, d) }
    by (Ok u) p true q (spent count b) d e = let z : ◌≡◌ {A = ℕ} 0 1 = cc in absurd (omega arith)
    by (Ok u) p false q ending d e = let z : ◌≡◌ {A = ℕ} 0 1 = cc in absurd (omega arith)
    by (Err r) p form q ending d e = let z : ◌≡◌ {A = ℕ} 0 1 = cc in absurd (omega arith)

-- ---- the same numbers, formulas and rows

module _ {m n : ℕ} (e : m ≡ n) where
  same-literals : {F G : List (List ℕ)} → F ≡ G → all_of (all_of (is_literal m)) F ≡ true → all_of (all_of (is_literal n)) G ≡ true
  same-literals q h = rw (← e, ← q) h

  same_rows : {ps qs : List (List ℕ)} → ps ≡ qs → all_of (is_row m) ps ≡ true → all_of (is_row n) qs ≡ true
  same_rows q h = rw (← e, ← q) h

  same-made : {F G ps qs : List (List ℕ)} → F ≡ G → ps ≡ qs → made m F ps ≡ made n G qs
  same-made q r = rw (e, q, r)

  same-all : {ps qs : List (List ℕ)} → ps ≡ qs → made_variables m ps ≡ made_variables n qs
  same-all r = rw (e, r)

  same-descent : {ps qs : List (List ℕ)} → ps ≡ qs → (limit : ℕ) (words : List ℕ) {ending : Ending} → descend limit ps (bits_of m words) ≡ ending
      → descend limit qs (bits_of n words) ≡ ending
  same-descent r limit words d = rw (← e, ← r) d

  same-filled : {ps qs : List (List ℕ)} → ps ≡ qs → (words : List ℕ) → words_of (filled_in ps (bits_of m words)) ≡ words_of (filled_in qs (bits_of n words))
  same-filled r words = rw (e, r)

-- ---- the theorem

module _ (s : Keyed) (text : List ℕ) (sizes : Dimensions) (calls : List Call) (opens : open_says s text ≡ done sizes) where
  abbrev n : ℕ
  n = variables s text calls

  abbrev F : List (List ℕ)
  F = formula s text calls

  abbrev ps : List (List ℕ)
  ps = permutations s text calls

  abbrev t : Keyed
  t = left s text calls

  variables-kept : t.store.counts.variables ≡ n
  variables-kept = same-variables (after-opening s text sizes calls opens).sound.keeps

  -- the formula and the permutations are those of the store that the list leaves
  symmetric : Symmetric n F ps
  symmetric =
      let a = after-opening s text sizes calls opens in
      record {
        literals = same-literals variables-kept a.plain (literals-within t.store (formed t.store (its-form t a.sound.formed)));
        permutations = same_rows variables-kept a.sound.are-rows (rows-of t.store (its-form t a.sound.formed));
        symmetries = a.symmetries;
      }

  made-is : made_of t.store ≡ made n F ps
  unfolding made_of
  made-is = let a = after-opening s text sizes calls opens in same-made variables-kept a.plain a.sound.are-rows

  variables-are : variables_of t.store ≡ made_variables n ps
  unfolding variables_of
  variables-are = let a = after-opening s text sizes calls opens in same-all variables-kept a.sound.are-rows

  -- words of a setting that completes an assignment check as a model of the made formula
  checked : (a setting : List Bool) (words : List ℕ) → Completes n F ps a setting → words ≡ words_of (a ++ setting) → check_says t words ≡ done yes
  checked a setting words c e =
      let after = after-opening s text sizes calls opens in
      let bits : List Bool = a ++ setting in
      let size : length bits ≡ variables_of t.store = c.size ∙ sym variables-are in
      let model : Model (variables_of t.store) (made_of t.store) bits = rw (variables-are, made-is) c in
      let form : is_assignment (variables_of t.store) (words_of bits) ≡ true = rw (← size) (words-form bits) in
      let same : bits_of (variables_of t.store) (words_of bits) ≡ bits = bits-words (variables_of t.store) bits size in
      rw e ((yes-is-model t (words_of bits)).1 (record { opened = after.opened; formed = after.sound.formed; form = form }, rw same model))

  pub demand-3 : Demand3 s text calls
  unfolding filled_in
  demand-3 =
      let a = after-opening s text sizes calls opens in
      let y = symmetric in
      record {
        rows = a.sound.are-rows;
        plain = a.plain;
        makes = made-is;
        numbers = variables-are;
        satisfiable = rw (variables-are, made-is) (satisfiable-iff y);
        carried = λ x m. carried-to-kept y x m;
        settles = λ words limit moves m e.
            let d = descend-settled t words limit moves e in
            let ends = same-descent variables-kept a.sound.are-rows limit words d.ends in
            let k = (settled-kept y limit moves (bits_of n words) d.reached m ends).0 in
            rw (d.leaves, bits-words n d.reached k.plain.size) k;
        kept = λ x. (
          λ k. (k.plain, (kept-iff n F ps y.literals y.permutations x k.plain).0 k),
          λ m. (kept-iff n F ps y.literals y.permutations x m.0).1 m.1,
        );
        one = λ x u v k c d. one-setting n F ps y.literals y.permutations x u v k.plain.size c d;
        fills = λ words out written k e. (
          settings ps (bits_of n words),
          filled-completes n F ps y.literals y.permutations (bits_of n words) k,
          fill-wrote t words out written e ∙ same-filled variables-kept a.sound.are-rows words,
        );
        checks = λ words out written k e.
            checked (bits_of n words) (settings ps (bits_of n words)) (take written (fill_leaves t words out))
            (filled-completes n F ps y.literals y.permutations (bits_of n words) k)
            (fill-wrote t words out written e ∙ same-filled variables-kept a.sound.are-rows words);
      }
