-- What is known of lines without a fault. Assumes nothing.
use mathlib.Core.Path.{◌≡◌, refl, sym, ◌∙◌}
use mathlib.Core.Bool.{Bool, true, false, cond, not, ◌&&◌}
use mathlib.Core.List.{List, [], ◌∷◌, map, map-map}
use Prim.Native.Nat.{ℕ, suc, ◌+◌, ◌-◌, ◌≤◌}
use native.Mathlib.Omega.{arith}
use borrow.Author.Tests.{not-true, eqb-true, ltb-false}
use lib.ListN.{length, get_or, length-map}
use lib.Dec.{eqb, ltb}
use Rattle.std.proofs.Common.{Option, Some, None, Ok, Result}
use Rattle.lists.specs.Tests.{any_of, all_of, has, distinct}
use Rattle.lists.specs.Tables.{table}
use Rattle.lists.proofs.Cases.{never, and_l, and_r, and_both, or_cases, or-r-false, not_so}
use Rattle.lists.proofs.Members.{place, placed, all-at, all-has, has-head, has_rest}
use Rattle.lists.proofs.TableLaws.{length-table, get_or-table}
use Rattle.dimacs.specs.Words.{Piece, words_at}
use Rattle.dimacs.specs.Numbers.{Numeral, numeral_of}
use Rattle.store.specs.Literals.{variable_of, is_literal}
use Rattle.store.specs.declared.refusal.Refusal.{Refusal}
use Rattle.store.proofs.FormLaws.{variables, variable-at, literal-zero, literal-low, literal-high, literal-within}
use Rattle.store.specs.Numerals.{is_numeral, numeral_code, code_in}
use Rattle.permutation.specs.Lines.{is_name, not_number, bad_name_after, bad_name, bad_value_after, names_on, values_on}
use Rattle.permutation.specs.Stated.{or_else, stated_by}
use Rattle.permutation.specs.Names.{Named}
use Rattle.permutation.proofs.Lists.{rest-differ, no_longer}
use Rattle.permutation.proofs.NameLaws.{name-literal}

-- ---- codes that pass a test, with variables that are new

record Sifted (pass : ℕ → Bool) (seen codes : List ℕ) : Type 0 where
  passes : all_of pass codes ≡ true
  fresh : (v : ℕ) → has (variables codes) v ≡ true → has seen v ≡ false
  differ : distinct (variables codes) ≡ true

sifted-none : (pass : ℕ → Bool) (seen : List ℕ) → Sifted pass seen []
unfolding all_of any_of distinct
sifted-none pass seen = record { passes = refl; fresh = λ v h. never h; differ = refl }

sifted-more : (pass : ℕ → Bool) (seen : List ℕ) (code : ℕ) (codes : List ℕ) → (pass code && not (has seen (variable_of code))) ≡ true
    → Sifted pass (variable_of code ∷ seen) codes → Sifted pass seen (code ∷ codes)
unfolding all_of any_of distinct
sifted-more pass seen code codes e rest =
    let v : ℕ = variable_of code in
    let new : has seen v ≡ false = not-true (has seen v) (and_r (pass code) (not (has seen v)) e) in
    let once : has (variables codes) v ≡ false = not_so _ (λ h. never (sym (rest.fresh v h) ∙ has-head v seen)) in
    record {
      passes = and_both (and_l (pass code) (not (has seen v)) e) rest.passes;
      fresh = λ u h. or_cases (eqb v u) (has (variables codes) u) h
          (λ q. rw (← (eqb-true v u q)) new)
          (λ k. or-r-false (eqb v u) (has seen u) (rest.fresh u k));
      differ = rw once rest.differ;
    }

-- a test that no fault comes of
clear : (t : Bool) (next : Option ℕ) (place : ℕ) → cond t next (Some place) ≡ None → (t ≡ true) × (next ≡ None)
clear true next place e = (refl, e)
clear false next place e = let z : ◌≡◌ {A = ℕ} 0 1 = cc in absurd (omega arith)

names-sifted : (n : ℕ) (seen : List ℕ) (words : List Piece) → bad_name_after n seen words ≡ None → Sifted (is_name n) seen (map code_in words)
unfolding bad_name_after
names-sifted n seen [] e = sifted-none (is_name n) seen
names-sifted n seen (w ∷ words) e =
    let p = clear _ _ w.place e in
    sifted-more (is_name n) seen (code_in w) (map code_in words) p.0 (names-sifted n (variable_of (code_in w) ∷ seen) words p.1)

-- ---- the names

pub named-rest : {n a : ℕ} {names rest : List ℕ} → Named n names → names ≡ a ∷ rest → Named n rest
named-rest {a = a} {rest = rest} m e = record {
  low = λ v h. m.low v (rw e (has_rest a rest v h));
  high = λ v h. m.high v (rw e (has_rest a rest v h));
  differ = rest-differ a rest (rw e at m.differ);
}

-- names that all differ are no more than n
pub named-few : {n : ℕ} {names : List ℕ} → Named n names → length names ≤ n
named-few {n} {names} m = omega (arith, no_longer names (table n suc) m.differ within, length-table n suc)
  where
    within : (v : ℕ) → has names v ≡ true → has (table n suc) v ≡ true
    within v h =
        let low = m.low v h in
        let high = m.high v h in
        let next : suc (v - 1) ≡ v = omega arith in
        placed (table n suc) v (v - 1) (omega (arith, length-table n suc)) (get_or-table n suc (v - 1) 0 (omega arith) ∙ next)

pub named_more : {n v : ℕ} {names : List ℕ} → Named n names → 1 ≤ v → v ≤ n → has names v ≡ false → Named n (v ∷ names)
unfolding any_of distinct
named_more {n} {v} {names} m low high new = record {
  low = λ u h. or_cases (eqb v u) (has names u) h (λ q. omega (arith, eqb-true v u q)) (m.low u);
  high = λ u h. or_cases (eqb v u) (has names u) h (λ q. omega (arith, eqb-true v u q)) (m.high u);
  differ = rw new m.differ;
}

-- a variable of a list of codes is that of a code in the list
variable-in : (pass : ℕ → Bool) (codes : List ℕ) (v : ℕ) → all_of pass codes ≡ true → has (variables codes) v ≡ true
    → (code : ℕ) × (pass code ≡ true) × (variable_of code ≡ v)
variable-in pass codes v e h =
    let p = place (variables codes) v h in
    let k : ℕ = p.0 in
    (get_or codes k 0, all-at pass codes 0 e k (rw (length-map codes variable_of) at p.1), sym (variable-at codes k) ∙ p.2)

names_of : (n : ℕ) (codes : List ℕ) → Sifted (is_name n) [] codes → Named n (variables codes)
names_of n codes s = record {
  low = λ v h. let c = variable-in (is_name n) codes v s.passes h in omega (arith, literal-low n c.0 (name-literal n c.0 c.1), c.2);
  high = λ v h. let c = variable-in (is_name n) codes v s.passes h in omega (arith, literal-high n c.0 (name-literal n c.0 c.1), c.2);
  differ = s.differ;
}

name-after : (n end : ℕ) (words : List Piece) → bad_name n end words ≡ None → bad_name_after n [] words ≡ None
unfolding bad_name bad_name_after
name-after n end [] e = refl
name-after n end (w ∷ words) e = e

named-on : (n end : ℕ) (line : List ℕ) → bad_name n end (words_at line 0) ≡ None → Named n (names_on line)
unfolding names_on
named-on n end line e =
    rw (← (map-map variable_of code_in (words_at line 0))) (names_of n _ (names-sifted n [] (words_at line 0) (name-after n end (words_at line 0) e)))

-- ---- the values

-- the size is a name
abbrev pub is_value : List ℕ → ℕ → Bool
is_value names code = has names (variable_of code)

pub value-literal : (n : ℕ) (names : List ℕ) (code : ℕ) → Named n names → is_value names code ≡ true → is_literal n code ≡ true
value-literal n names code named e = literal-within n code (named.low _ e) (named.high _ e)

values-sifted : (names : List ℕ) (end : ℕ) (used : List ℕ) (words : List Piece) → bad_value_after names end used words ≡ None
    → Sifted (is_value names) used (map code_in words) × (length names ≤ length used + length words)
unfolding bad_value_after
values-sifted names end used [] e = (sifted-none (is_value names) used, by (ltb (length used) (length names)) refl e)
  where
    by : (t : Bool) → ltb (length used) (length names) ≡ t → cond t (Some end) None ≡ None → length names ≤ length used + 0
    by true q k = let z : ◌≡◌ {A = ℕ} 0 1 = cc in absurd (omega arith)
    by false q k = omega (arith, ltb-false (length used) (length names) q)
values-sifted names end used (w ∷ words) e =
    let p = clear _ _ w.place e in
    let rest = values-sifted names end (variable_of (code_in w) ∷ used) words p.1 in
    (sifted-more (is_value names) used (code_in w) (map code_in words) p.0 rest.0, omega (arith, rest.1))

-- ---- a line without a fault of 8 or 10 has none of 7 or 9

-- a word whose code is a literal is a number
literal-number : (n : ℕ) (w : Piece) → is_literal n (code_in w) ≡ true → is_numeral (numeral_of w.bytes) ≡ true
unfolding code_in
literal-number n w e = by (numeral_of w.bytes) e
  where
    by : (m : Numeral) → is_literal n (numeral_code m) ≡ true → is_numeral m ≡ true
    by (Numeral.Is x) i = refl
    by Numeral.Not i = never (sym (literal-zero n 0 refl) ∙ i)

all-numbers : (n : ℕ) (pass : ℕ → Bool) → ((code : ℕ) → pass code ≡ true → is_literal n code ≡ true) → (words : List Piece)
    → all_of pass (map code_in words) ≡ true → not_number words ≡ None
unfolding not_number all_of
all-numbers n pass only [] e = refl
all-numbers n pass only (w ∷ words) e =
    rw (literal-number n w (only (code_in w) (and_l (pass (code_in w)) (all_of pass (map code_in words)) e)))
    (all-numbers n pass only words (and_r (pass (code_in w)) (all_of pass (map code_in words)) e))

pub names-numbers : (n end : ℕ) (words : List Piece) → bad_name n end words ≡ None → not_number words ≡ None
names-numbers n end words e = all-numbers n (is_name n) (name-literal n) words (names-sifted n [] words (name-after n end words e)).passes

pub values-numbers : (n : ℕ) (names : List ℕ) (end : ℕ) (words : List Piece) → Named n names
    → bad_value_after names end [] words ≡ None → not_number words ≡ None
values-numbers n names end words named e =
    all-numbers n (is_value names) (λ code. value-literal n names code named) words (values-sifted names end [] words e).0.passes

-- ---- both lines

pub record InOrder (n : ℕ) (names values : List ℕ) : Type 0 where
  pub named : Named n (names_on names)
  pub among : (code : ℕ) → has (values_on values) code ≡ true → has (names_on names) (variable_of code) ≡ true
  pub literal : (code : ℕ) → has (values_on values) code ≡ true → is_literal n code ≡ true
  pub differ : distinct (variables (values_on values)) ≡ true
  pub as_many : length (values_on values) ≡ length (names_on names)

-- a rule that no refusal comes of
pub passed : (f : Option ℕ) (refusal : ℕ → Refusal) (next : Result (Unit {0}) Refusal) → or_else f refusal next ≡ (Ok tt)
    → (f ≡ None) × (next ≡ (Ok tt))
passed (Some place) refusal next e = let z : ◌≡◌ {A = ℕ} 0 1 = cc in absurd (omega arith)
passed None refusal next e = (refl, e)

pub in_order : (n : ℕ) (names values : List ℕ) → stated_by n names values ≡ (Ok tt) → InOrder n names values
unfolding stated_by values_on
in_order n names values e =
    let words : List Piece = words_at values 0 in
    let first = passed (not_number (words_at names 0)) Refusal.NameNotNumber _ e in
    let second = passed _ Refusal.BadName _ first.1 in
    let third = passed (not_number words) Refusal.ValueNotNumber _ second.1 in
    let fourth = passed _ Refusal.BadValue (Ok tt) third.1 in
    let named : Named n (names_on names) = named-on n (length names) names second.0 in
    let s = values-sifted (names_on names) (length values) [] words fourth.0 in
    let value : (code : ℕ) → has (map code_in words) code ≡ true → is_value (names_on names) code ≡ true =
    λ code h. all-has (is_value (names_on names)) (map code_in words) code s.0.passes h in
    let name : (v : ℕ) → has (variables (map code_in words)) v ≡ true → has (names_on names) v ≡ true =
    λ v h. let c = variable-in (is_value (names_on names)) (map code_in words) v s.0.passes h in rw (← c.2) c.1 in
    let most = no_longer (variables (map code_in words)) (names_on names) s.0.differ name in
    record {
      named = named;
      among = value;
      literal = λ code h. value-literal n (names_on names) code named (value code h);
      differ = s.0.differ;
      as_many = omega (arith, s.1, most, length-map (map code_in words) variable_of, length-map words code_in);
    }
