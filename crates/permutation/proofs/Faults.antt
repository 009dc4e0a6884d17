-- The faults of a line: one law for each way through the loops that look for them. Assumes nothing.
use mathlib.Core.Path.{◌≡◌, refl, sym, ◌∙◌}
use mathlib.Core.Bool.{true, false, and-false}
use mathlib.Core.List.{List, [], ◌∷◌}
use Prim.Native.Nat.{ℕ, ◌≤◌, ◌<◌}
use native.Mathlib.Omega.{arith}
use borrow.Author.Tests.{lt-ltb, le-ltb}
use lib.ListN.{length}
use Rattle.std.proofs.Common.{Option, Some, None}
use Rattle.lists.specs.Tests.{any_of, has}
use Rattle.lists.proofs.Cases.{never, not_so}
use Rattle.dimacs.specs.Words.{Piece, words_at}
use Rattle.dimacs.specs.declared.Number.{Number}
use Rattle.store.specs.Literals.{variable_of, is_literal}
use Rattle.store.specs.Numerals.{code_in}
use Rattle.permutation.specs.Lines.{is_name, not_number, bad_name_after, bad_name, bad_value_after}
use Rattle.permutation.specs.Names.{Named}
use Rattle.permutation.proofs.Walks.{Word, Stray}
use Rattle.permutation.proofs.Marks.{is_free}
use Rattle.permutation.proofs.NameLaws.{Passes}
use Rattle.permutation.proofs.InOrder.{is_value, value-literal}

-- ---- 7 and 9

pub number-end : {words : List Piece} → words ≡ [] → not_number words ≡ None
unfolding not_number
number-end e = rw e

pub number-stray : {line : List ℕ} {at place : ℕ} → Stray line at place → not_number (words_at line at) ≡ Some place
unfolding not_number
number-stray s = rw (s.words, s.number)

pub number-on : {line : List ℕ} {at place next : ℕ} {x : Number} → Word line at place x next
    → not_number (words_at line at) ≡ not_number (words_at line next)
unfolding not_number
number-on w = rw (w.words, w.number)

-- ---- 8

pub name-missing : (n end : ℕ) {words : List Piece} → words ≡ [] → bad_name n end words ≡ Some end
unfolding bad_name
name-missing n end e = rw e

pub name-first : (n end : ℕ) {words : List Piece} {w : Piece} {rest : List Piece} → words ≡ w ∷ rest → bad_name n end words ≡ bad_name_after n [] words
unfolding bad_name
name-first n end e = rw e

module _ (n : ℕ) (seen : List ℕ) where
  pub name-end : {words : List Piece} → words ≡ [] → bad_name_after n seen words ≡ None
  unfolding bad_name_after
  name-end e = rw e

  module _ {words : List Piece} {w : Piece} {rest : List Piece} (e : words ≡ w ∷ rest) where
    pub name-outside : is_name n (code_in w) ≡ false → bad_name_after n seen words ≡ Some w.place
    unfolding bad_name_after
    name-outside i = rw (e, i)

    pub name-twice : (name : ℕ) → Passes (is_name n) (code_in w) name → has seen name ≡ true → bad_name_after n seen words ≡ Some w.place
    unfolding bad_name_after
    name-twice name i h = rw (e, i.is, h, and-false (is_name n (code_in w)))

    pub name-on : (name : ℕ) → Passes (is_name n) (code_in w) name → has seen name ≡ false → bad_name_after n seen words ≡ bad_name_after n (name ∷ seen) rest
    unfolding bad_name_after
    name-on name i h = rw (e, i.is, h, i.passes)

-- which names are before matters, and not their order
pub name-same : (n : ℕ) (seen more : List ℕ) → ((v : ℕ) → has seen v ≡ has more v) → (words : List Piece)
    → bad_name_after n seen words ≡ bad_name_after n more words
unfolding bad_name_after any_of
name-same n seen more e [] = refl
name-same n seen more e (w ∷ words) =
    let v : ℕ = variable_of (code_in w) in
    rw (e v, name-same n (v ∷ seen) (v ∷ more) (λ u. rw (e u)) words)

-- what rule 8 finds from a place on, after the names before it
pub bad_name_from : ℕ → ℕ → List ℕ → List Piece → Option ℕ
bad_name_from n end [] words = bad_name n end words
bad_name_from n end (v ∷ seen) words = bad_name_after n (v ∷ seen) words

module _ (n end : ℕ) where
  pub from_start : (words : List Piece) → bad_name n end words ≡ bad_name_from n end [] words
  unfolding bad_name_from
  from_start words = refl

  pub from-none : (seen : List ℕ) {words : List Piece} → length seen ≡ 0 → words ≡ [] → bad_name_from n end seen words ≡ Some end
  unfolding bad_name_from
  from-none [] z e = name-missing n end e
  from-none (v ∷ seen) z e = absurd (omega arith)

  pub from_some : (seen : List ℕ) (words : List Piece) → 1 ≤ length seen → bad_name_from n end seen words ≡ bad_name_after n seen words
  unfolding bad_name_from
  from_some [] words h = absurd (omega arith)
  from_some (v ∷ seen) words h = refl

  pub from-word : (seen : List ℕ) {words : List Piece} {w : Piece} {rest : List Piece} → words ≡ w ∷ rest
      → bad_name_from n end seen words ≡ bad_name_after n seen words
  unfolding bad_name_from
  from-word [] e = name-first n end e
  from-word (v ∷ seen) e = refl

-- ---- 10

module _ (names : List ℕ) (end : ℕ) (used : List ℕ) where
  pub value-few : {words : List Piece} → words ≡ [] → length used < length names → bad_value_after names end used words ≡ Some end
  unfolding bad_value_after
  value-few e h = rw (e, lt-ltb (length used) (length names) h)

  pub value-end : {words : List Piece} → words ≡ [] → length names ≤ length used → bad_value_after names end used words ≡ None
  unfolding bad_value_after
  value-end e h = rw (e, le-ltb (length used) (length names) h)

  module _ {words : List Piece} {w : Piece} {rest : List Piece} (e : words ≡ w ∷ rest) where
    pub value-outside : (n : ℕ) → Named n names → is_literal n (code_in w) ≡ false → bad_value_after names end used words ≡ Some w.place
    unfolding bad_value_after
    value-outside n named i = rw (e, not_so (is_value names (code_in w)) (λ t. never (sym i ∙ value-literal n names (code_in w) named t)))

    module _ (n size : ℕ) (p : Passes (is_literal n) (code_in w) size) where
      pub value-taken : is_free names used size ≡ false → bad_value_after names end used words ≡ Some w.place
      unfolding bad_value_after
      value-taken f = rw (e, p.is, f)

      pub value_on : is_free names used size ≡ true → bad_value_after names end used words ≡ bad_value_after names end (size ∷ used) rest
      unfolding bad_value_after
      value_on f = rw (e, p.is, f)
