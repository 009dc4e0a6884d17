-- The walk of a line of names, which lists and marks them: what is known at each place. Assumes nothing.
use mathlib.Core.Path.{◌≡◌, refl, sym, ◌∙◌}
use mathlib.Core.Bool.{Bool, true, false, ◌||◌, or_comm}
use mathlib.Core.List.{List, [], ◌∷◌, ◌++◌, append-nil}
use Prim.Native.Nat.{ℕ, ◌+◌, ◌≤◌, ◌<◌}
use native.Mathlib.Numerals.{add-one}
use native.Mathlib.Omega.{arith}
use borrow.Author.Tests.{eqb-true}
use lib.ListN.{length, get_or, set, take, replicate, length-set}
use lib.Seq.{length-take-le, take-set-le, take-suc-set, get_or-set_same, append_snoc}
use lib.Dec.{eqb}
use Rattle.std.proofs.Common.{Some}
use Rattle.lists.specs.Tests.{any_of, has, distinct}
use Rattle.lists.proofs.Cases.{never, or_cases}
use Rattle.lists.proofs.Distinct.{has_more, distinct_more}
use Rattle.dimacs.specs.Words.{Piece, words_at}
use Rattle.dimacs.specs.declared.Number.{Number}
use Rattle.dimacs.proofs.WordLaws.{piece_at}
use Rattle.store.specs.Numerals.{code_in}
use Rattle.permutation.specs.Lines.{is_name, bad_name, names_on}
use Rattle.permutation.specs.Names.{Named, Marks, Listed}
use Rattle.permutation.proofs.Walks.{Word, names_from}
use Rattle.permutation.proofs.Marks.{seen_none, seen_more}
use Rattle.permutation.proofs.NameLaws.{Passes, name-literal, size-range}
use Rattle.permutation.proofs.InOrder.{named-few, named_more}
use Rattle.permutation.proofs.Faults.{name-end, name-outside, name-twice, name-on, name-same, bad_name_from, from_start, from-none, from_some, from-word}

-- the names before `at` are the first `count` of `order` and are marked, and the line's first bad name is the first from `at` on
pub record Listing (n : ℕ) (line : List ℕ) (marks : List Bool) (order : List ℕ) (count at : ℕ) : Type 0 where
  pub fault : bad_name n (length line) (words_at line 0) ≡ bad_name_from n (length line) (take count order) (words_at line at)
  pub room : n ≤ length order
  pub fits : count ≤ length order
  pub names : names_on line ≡ take count order ++ names_from line at
  pub named : Named n (take count order)
  pub marked : Marks (has (take count order)) marks

pub listing_none : (n : ℕ) (line : List ℕ) (marks : List Bool) (order : List ℕ) → marks ≡ replicate 513 false → n ≤ length order
    → Listing n line marks order 0 0
unfolding names_on any_of distinct
listing_none n line marks order e room = record {
  fault = from_start n (length line) (words_at line 0);
  room = room;
  fits = omega arith;
  names = refl;
  named = record { low = λ v h. never h; high = λ v h. never h; differ = refl };
  marked = rw e seen_none;
}

module _ {n : ℕ} {line : List ℕ} {marks : List Bool} {order : List ℕ} {count at : ℕ} (l : Listing n line marks order count at) where
  size : length (take count order) ≡ count
  size = length-take-le count order l.fits

  pub listing-empty : words_at line at ≡ [] → count ≡ 0 → bad_name n (length line) (words_at line 0) ≡ Some (length line)
  listing-empty e z = l.fault ∙ from-none n (length line) (take count order) (size ∙ z) e

  pub listing-all : words_at line at ≡ [] → (count ≡ 0 → ⊥) → Listed n line marks order count
  listing-all e z =
      let some : 1 ≤ count = omega arith in
      record {
        good = l.fault ∙ from_some n (length line) (take count order) (words_at line at) (rw size some) ∙ name-end n (take count order) e;
        fits = l.fits;
        names = sym (l.names ∙ rw e (append-nil (take count order)));
        named = l.named;
        marked = l.marked;
      }

  module _ {w : Piece} {rest : List Piece} (e : words_at line at ≡ w ∷ rest) where
    pub listing-outside : is_name n (code_in w) ≡ false → bad_name n (length line) (words_at line 0) ≡ Some w.place
    listing-outside i = l.fault ∙ from-word n (length line) (take count order) e ∙ name-outside n (take count order) e i

    pub listing-twice : (name : ℕ) → Passes (is_name n) (code_in w) name → get_or marks name false ≡ true
        → bad_name n (length line) (words_at line 0) ≡ Some w.place
    listing-twice name i h =
        l.fault ∙ from-word n (length line) (take count order) e ∙ name-twice n (take count order) e name i (sym (l.marked.is name) ∙ h)

  module _ {code name : ℕ} (i : Passes (is_name n) code name) (new : get_or marks name false ≡ false) where
    unseen : has (take count order) name ≡ false
    unseen = sym (l.marked.is name) ∙ new

    pub listing-room : count < n
    listing-room =
        let range = size-range n (is_name n) (name-literal n) i in
        omega (arith, named-few (named_more l.named range.0 range.1 unseen), size)

  pub listing-more : {place next : ℕ} {x : Number} → Word line at place x next → (name : ℕ) → Passes (is_name n) (code_in (piece_at line place)) name
      → get_or marks name false ≡ false → name < 513 → Listing n line (set marks name true) (set order count name) (count + 1) next
  unfolding any_of
  listing-more {place} {next} w name i new small =
      let range = size-range n (is_name n) (name-literal n) i in
      record {
        fault = l.fault
            ∙ from-word n (length line) (take count order) w.words
            ∙ name-on n (take count order) w.words name i (unseen i new)
            ∙ name-same n (name ∷ take count order) listed (λ u. or_comm (eqb name u) (has (take count order) u) ∙ sym (has_listed u)) (words_at line next)
            ∙ sym (from_some n (length line) listed (words_at line next) (rw (length-take-le (count + 1) stored fits) (omega arith)));
        room = simp length-set l.room;
        fits = fits;
        names = l.names ∙ rw (w.words, i.is, add-one count, take-suc-set order count name here, append_snoc);
        named = record {
          low = λ u h. or_cases (has (take count order) u) (eqb name u) (sym (has_listed u) ∙ h) (l.named.low u) (λ q. omega (arith, eqb-true name u q));
          high = λ u h. or_cases (has (take count order) u) (eqb name u) (sym (has_listed u) ∙ h) (l.named.high u) (λ q. omega (arith, eqb-true name u q));
          differ = distinct_more stored count within (rw before l.named.differ) (rw (before, last) (unseen i new));
        };
        marked = seen_more (take count order) listed marks name l.marked small has_listed;
      }
    where
      stored : List ℕ
      stored = set order count name

      listed : List ℕ
      listed = take (count + 1) stored

      here : count < length order
      here = omega (arith, listing-room i new, l.room)

      within : count < length stored
      within = simp length-set here

      fits : count + 1 ≤ length stored
      fits = omega (arith, within)

      before : take count stored ≡ take count order
      before = take-set-le count order count name (omega arith)

      last : get_or stored count 0 ≡ name
      last = get_or-set_same order count name 0 here

      has_listed : (u : ℕ) → has listed u ≡ (has (take count order) u || eqb name u)
      has_listed u = has_more stored count u within ∙ rw (before, last)
