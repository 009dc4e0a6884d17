-- The first false clause: clauses that hold are passed, one that does not is the answer, and so by a cursor through the made formula. Assumes nothing.
use mathlib.Core.Path.{◌≡◌, refl, sym, ap, ◌∙◌}
use mathlib.Core.Bool.{Bool, true, false}
use mathlib.Core.List.{List, [], ◌∷◌, ◌++◌}
use Prim.Native.Nat.{ℕ, suc, ◌+◌, ◌≤◌, ◌<◌}
use native.Mathlib.Nat.{add-zero}
use native.Mathlib.Omega.{arith}
use lib.ListN.{length, get_or, drop, length-append}
use Rattle.lists.specs.Tests.{all_of}
use Rattle.lists.proofs.Cases.{and_l, and_r}
use Rattle.lists.proofs.Members.{all_append, all-at}
use Rattle.packed.specs.Words.{bits_of}
use Rattle.packed.specs.Order.{value_of}
use Rattle.store.specs.Literals.{is_literal}
use Rattle.store.specs.Stores.{Store, plain_of, is_formed}
use Rattle.lexleader.specs.Models.{clause_holds, formula_holds}
use Rattle.lexleader.specs.Store.{made_of, variables_of, clauses_of}
use Rattle.lexleader.proofs.MadeLaws.{plain-length}
use Rattle.lexleader.proofs.StoreBounds.{store-within}
use Rattle.cursor.specs.Cursors.{added_from, remaining, remaining_of, CursorStands, ClauseRemains}
use Rattle.cursor.specs.declared.Cursor.{Cursor}
use Rattle.cursor.proofs.CursorLaws.{some_left}
use Rattle.checking.specs.Checking.{yes, false_at, false_from, first_false}
use Rattle.checking.specs.SixClauses.{LiteralsWithin}

module _ (q : ℕ) (v : ℕ → Bool) where
  none-false : (clauses : List (List ℕ)) → length clauses ≡ 0 → false_from q v clauses ≡ yes
  unfolding false_from
  none-false [] e = refl
  none-false (clause ∷ clauses) e = absurd (omega arith)

  found : (clauses : List (List ℕ)) → 0 < length clauses → clause_holds v (get_or clauses 0 []) ≡ false → false_from q v clauses ≡ false_at q
  unfolding false_from
  found [] some h = absurd (omega arith)
  found (clause ∷ clauses) some h = rw h

-- clauses that all hold
passed-all : (q : ℕ) (v : ℕ → Bool) (clauses rest : List (List ℕ)) → formula_holds v clauses ≡ true → false_from q v (clauses ++ rest) ≡ false_from (q + length clauses) v rest
unfolding false_from formula_holds all_of
passed-all q v [] rest h = rw add-zero
passed-all q v (clause ∷ clauses) rest h =
    let on : q + 1 + length clauses ≡ q + suc (length clauses) = omega arith in
    rw (and_l (clause_holds v clause) (formula_holds v clauses) h) (passed-all (q + 1) v clauses rest (and_r (clause_holds v clause) (formula_holds v clauses) h) ∙ rw on)

pub one_holds : (v : ℕ → Bool) (clause : List ℕ) → clause_holds v clause ≡ true → formula_holds v (clause ∷ []) ≡ true
unfolding formula_holds all_of
one_holds v clause h = rw h

-- what holds of all clauses holds of every part of them
rest-within : (q : List ℕ → Bool) {clauses : List (List ℕ)} (front rest : List (List ℕ)) → clauses ≡ front ++ rest → all_of q clauses ≡ true → all_of q rest ≡ true
rest-within q front rest is h = and_r (all_of q front) (all_of q rest) (sym (all_append q front rest) ∙ (rw is at h))

pub front-within : (q : List ℕ → Bool) {clauses : List (List ℕ)} (front rest : List (List ℕ)) → clauses ≡ front ++ rest → all_of q clauses ≡ true → all_of q front ≡ true
front-within q front rest is h = and_l (all_of q front) (all_of q rest) (sym (all_append q front rest) ∙ (rw is at h))

-- ---- the walk

-- What is known at the cursor `at`, whose clause has the number q of m: the first false clause of all is that of the clauses from there on.
pub record LeftToTry (s : Store) (a : List ℕ) (m : ℕ) (at : Cursor) (q : ℕ) : Type 0 where
  pub same : first_false s a ≡ false_from q (value_of (bits_of (variables_of s) a)) (remaining_of s at)
  pub stands : CursorStands s.counts s.images at
  pub count : q + length (remaining_of s at) ≡ m + 1
  pub within : LiteralsWithin (variables_of s) (remaining_of s at)

module _ (s : Store) (formed : is_formed s ≡ true) (a : List ℕ) where
  abbrev N : ℕ
  N = variables_of s

  abbrev values : ℕ → Bool
  values = value_of (bits_of N a)

  pub try-first : {m : ℕ} → m ≡ clauses_of s → {at : Cursor} → CursorStands s.counts s.images at → remaining_of s at ≡ made_of s → LeftToTry s a m at 1
  unfolding first_false clauses_of
  try-first count stands all = record {
    same = ap (false_from 1 values) (sym all);
    stands = stands;
    count = omega (arith, ap length all);
    within = rw all (store-within s formed);
  }

  module _ {m : ℕ} {at : Cursor} {q : ℕ} (t : LeftToTry s a m at q) where
    -- a clause is left, and the words have a bit for each of its variables
    module _ (more : q ≤ m) where
      some : 0 < length (remaining_of s at)
      some = omega (arith, t.count)

      pub left-some : ClauseRemains s.counts at
      left-some = some_left (plain_of s) s.counts (plain-length s formed) s.images at some

      pub head-within : all_of (is_literal N) (get_or (remaining_of s at) 0 []) ≡ true
      head-within = all-at (all_of (is_literal N)) (remaining_of s at) [] t.within 0 some

      pub try-found : clause_holds values (get_or (remaining_of s at) 0 []) ≡ false → false_at q ≡ first_false s a
      try-found h = sym (t.same ∙ found q values (remaining_of s at) some h)

    pub added-within : LiteralsWithin N (added_from s.counts s.images at.row at.place)
    unfolding remaining
    added-within = rest-within (all_of (is_literal N)) (drop at.plain (plain_of s)) _ refl t.within

    pub try-all : m < q → yes ≡ first_false s a
    try-all h = sym (t.same ∙ none-false q values (remaining_of s at) (omega (arith, t.count)))

    -- past clauses that hold
    module _ (clauses : List (List ℕ)) (d : Cursor) (is : remaining_of s at ≡ clauses ++ remaining_of s d) where
      pub front-literals : LiteralsWithin N clauses
      front-literals = front-within (all_of (is_literal N)) clauses (remaining_of s d) is t.within

      pub try-on : CursorStands s.counts s.images d → formula_holds values clauses ≡ true → LeftToTry s a m d (q + length clauses)
      try-on stands hold = record {
        same = t.same ∙ ap (false_from q values) is ∙ passed-all q values clauses (remaining_of s d) hold;
        stands = stands;
        count = omega (arith, t.count, ap length is, length-append clauses (remaining_of s d));
        within = rest-within (all_of (is_literal N)) clauses (remaining_of s d) is t.within;
      }
