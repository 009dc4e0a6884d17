-- The walks of an offer find the first failing word, or clause: 7 to 11; and 31 is by the row that the lines state. Assumes nothing.
use Rattle.std.proofs.Common.{Option, Some, None, Ok}
use mathlib.Core.Path.{◌≡◌, refl, sym, ap, ap₂, ◌∙◌}
use mathlib.Core.Bool.{Bool, true, false, cond, not, ◌&&◌, ◌||◌, or-false}
use mathlib.Core.List.Memᴰ
use mathlib.Core.List.{List, [], ◌∷◌, ◌++◌, map, Memᴰ}
use mathlib.Core.Logic.{◌↔◌}
use Prim.Native.Nat.{ℕ, zero, suc, ◌+◌, ◌*◌, ◌%◌, ◌≤◌, ◌<◌}
use native.Mathlib.Nat.{not-suc-le-zero, le_of_suc-le-suc}
use native.Mathlib.Omega.{arith}
use borrow.Author.Tests.{eq-eqb, ne_eqb, not-true}
use lib.ListN.{length, get_or, length-append, length-map}
use lib.Dec.{eqb, ltb}
use Rattle.lists.specs.Tests.{any_of, has}
use Rattle.lists.proofs.Cases.{never, and_l, and_r, and_both, not_so}
use Rattle.dimacs.specs.Words.{Piece, words_at}
use Rattle.dimacs.specs.Numbers.{Numeral, numeral_of}
use Rattle.dimacs.specs.declared.Number.{Number}
use Rattle.store.specs.Literals.{code_of, variable_of, is_negative}
use Rattle.store.specs.Numerals.{code_in}
use Rattle.store.specs.Identity.{moves_nothing}
use Rattle.store.proofs.FormLaws.{literal-low, literal-high, literal-within}
use Rattle.opening.proofs.CodeLaws.{coded}
use Rattle.permutation.specs.Lines.{is_name, not_number, bad_name_after, bad_value_after, names_on, values_on}
use Rattle.permutation.specs.Stated.{stated_by, row_stated}
use Rattle.permutation.proofs.InOrder.{is_value, in_order}
use Rattle.permutation.proofs.NameLaws.{name-literal, name-sign, is_name_lem, no_name}
use Rattle.permutation.proofs.Theorem.{each-own-iff}
use Rattle.symmetry.specs.Judged.{has_opposites, judged}
use Rattle.symmetry.specs.Symmetry.{has_image, missing_from}
use Rattle.symmetry.proofs.SetLaws.{has-iff}
use Rattle.symmetry.proofs.Theorem.{has_image-iff}
use Rattle.demands.specs.Reasons.{AllPass, Reads, IsNumber, Numeric, HasSize, Name, Value, SameNumbers, HasImage}
use Rattle.demands.proofs.Firsts.{Turn, on, stop, Walked, walked}

-- a fault at the place of the word at which the walk stops
abbrev pub fault_at : List Piece → Piece → List Piece → Option ℕ
fault_at before w after = Some w.place

-- ---- 7 and 9

abbrev pub number_walk : List Piece → List Piece → Option ℕ
number_walk before words = not_number words

number-turn : (before : List Piece) (w : Piece) (after : List Piece) → AllPass Numeric before → Turn Numeric number_walk fault_at before w after
unfolding not_number
number-turn before w after p = by (numeral_of w.bytes) refl
  where
    by : (x : Numeral) → numeral_of w.bytes ≡ x → Turn Numeric number_walk fault_at before w after
    by (Numeral.Is x) e = on (x, e) (rw e)
    by Numeral.Not e = stop (λ h. let z : ◌≡◌ {A = ℕ} 0 1 = cc h.1 in omega arith) (rw e)

pub number-walked : (words : List Piece) → Walked Numeric number_walk fault_at words
number-walked words = walked Numeric number_walk fault_at number-turn words

-- ---- words that are numbers, as variables

abbrev pub variable : Piece → ℕ
variable w = variable_of (code_in w)

module _ (w : Piece) (x : Number) (reads : Reads w x) where
  sign_of : is_negative (code_in w) ≡ x.negative
  sign_of = rw (coded w x reads).code (by x.negative)
    where
      by : (b : Bool) → is_negative (code_of x.size b) ≡ b
      by true = eq-eqb (code_of x.size true % 2) 1 (omega arith)
      by false = ne_eqb (code_of x.size false % 2) 1 (λ e. omega arith)

  size_of : variable w ≡ x.size
  size_of = (coded w x reads).variable

no_code : (w : Piece) → numeral_of w.bytes ≡ Numeral.Not → code_in w ≡ 0
unfolding code_in
no_code w e = rw e

-- a member stands after some others
split_at : {y : Piece} {l : List Piece} → Memᴰ y l → (before : List Piece) × (after : List Piece) × (l ≡ before ++ (y ∷ after))
split_at (Memᴰ.head {xs = after} e) = ([], after, cc)
split_at (Memᴰ.tail {x = x} m) = let r = split_at m in (x ∷ r.0, r.1, ap (λ (l : List Piece). x ∷ l) r.2)

abbrev AllNumbers : List Piece → Type 0
AllNumbers words = (y : Piece) → Memᴰ y words → IsNumber y

-- where all words are numbers, a variable is theirs exactly where one has its size
sized : (words : List Piece) → AllNumbers words → (v : ℕ) → (has (map variable words) v ≡ true) ↔ HasSize words v
sized words numbers v = (
  λ e. let m = Memᴰ.of_map variable words ((has-iff (map variable words) v).0 e) in
      let x = numbers m.0 m.1 in
      (m.0, m.1, x.0, x.1, sym (size_of m.0 x.0 x.1) ∙ m.2),
  λ m. (has-iff (map variable words) v).1 (Memᴰ.cast (sym (size_of m.0 m.2 m.3 ∙ m.4)) (Memᴰ.map variable m.1)),
)

-- the variables of the words before, the last first
unfoldable pub seen-from : List ℕ → List Piece → List ℕ
seen-from l [] = l
seen-from l (w ∷ words) = seen-from (variable w ∷ l) words

seen_more : (l : List ℕ) (before : List Piece) (w : Piece) → seen-from l (before ++ (w ∷ [])) ≡ variable w ∷ seen-from l before
unfolding seen-from
seen_more l [] w = refl
seen_more l (y ∷ before) w = seen_more (variable y ∷ l) before w

seen-length : (l : List ℕ) (before : List Piece) → length (seen-from l before) ≡ length l + length before
unfolding seen-from
seen-length l [] = omega arith
seen-length l (y ∷ before) = omega (arith, seen-length (variable y ∷ l) before)

seen-has : (l : List ℕ) (before : List Piece) (v : ℕ) → has (seen-from l before) v ≡ (has (map variable before) v || has l v)
unfolding seen-from any_of
seen-has l [] v = refl
seen-has l (y ∷ before) v = seen-has (variable y ∷ l) before v ∙ by (eqb (variable y) v) (has (map variable before) v) (has l v)
  where
    by : (a b c : Bool) → (b || (a || c)) ≡ ((a || b) || c)
    by true true c = refl
    by true false c = refl
    by false true c = refl
    by false false c = refl

abbrev pub seen : List Piece → List ℕ
seen before = seen-from [] before

-- a word is, by the walks' test, of another size than the words before
module _ (before : List Piece) (numbers : AllNumbers before) (w : Piece) (x : Number) (reads : Reads w x) where
  seen-sized : (has (seen before) (variable w) ≡ true) ↔ HasSize before x.size
  unfolding any_of
  seen-sized =
      let same : has (seen before) (variable w) ≡ has (map variable before) x.size =
      rw (size_of w x reads) (seen-has [] before x.size ∙ or-false (has (map variable before) x.size)) in
      (λ e. (sized before numbers x.size).0 (sym same ∙ e), λ m. same ∙ (sized before numbers x.size).1 m)

  new_word : not (has (seen before) (variable w)) ≡ true → HasSize before x.size → ⊥
  new_word e m = never (sym (not-true (has (seen before) (variable w)) e) ∙ seen-sized.1 m)

  new-test : (HasSize before x.size → ⊥) → not (has (seen before) (variable w)) ≡ true
  new-test f = ap not (not_so (has (seen before) (variable w)) (λ t. f (seen-sized.0 t)))

-- ---- 8

name-numbers : (n : ℕ) (words : List Piece) → AllPass (Name n) words → AllNumbers words
name-numbers n words all y m = let r = split_at m in let h = all r.0 r.1 y r.2 in (h.0, h.1)

abbrev pub name_walk : ℕ → List Piece → List Piece → Option ℕ
name_walk n before words = bad_name_after n (seen before) words

name-turn : (n : ℕ) (before : List Piece) (w : Piece) (after : List Piece) → AllPass (Name n) before → Turn (Name n) (name_walk n) fault_at before w after
unfolding bad_name_after
name-turn n before w after p = by (numeral_of w.bytes) refl
  where
    numbers : AllNumbers before
    numbers = name-numbers n before p

    test : (x : Number) → Reads w x → (t : Bool) → (is_name n (code_in w) && not (has (seen before) (variable w))) ≡ t → Turn (Name n) (name_walk n) fault_at before w after
    test x e true q =
        let name : is_name n (code_in w) ≡ true = and_l (is_name n (code_in w)) (not (has (seen before) (variable w))) q in
        let plus : x.negative ≡ false = sym (sign_of w x e) ∙ name-sign n (code_in w) name in
        let low : 1 ≤ x.size = omega (arith, literal-low n (code_in w) (name-literal n (code_in w) name), size_of w x e) in
        let high : x.size ≤ n = omega (arith, literal-high n (code_in w) (name-literal n (code_in w) name), size_of w x e) in
        on
        (x, e, plus, low, high, new_word before numbers w x e (and_r (is_name n (code_in w)) (not (has (seen before) (variable w))) q))
        (rw (q, seen_more [] before w))
    test x e false q = stop (λ h. never (sym q ∙ and_both (name h) (new-test before numbers w h.0 h.1 h.5))) (rw q)
      where
        name : Name n before w → is_name n (code_in w) ≡ true
        name h =
            let size = size_of w h.0 h.1 in
            is_name_lem n (code_in w) (literal-within n (code_in w) (omega (arith, size, h.3)) (omega (arith, size, h.4))) (sign_of w h.0 h.1 ∙ h.2)

    by : (x : Numeral) → numeral_of w.bytes ≡ x → Turn (Name n) (name_walk n) fault_at before w after
    by (Numeral.Is x) e = test x e (is_name n (code_in w) && not (has (seen before) (variable w))) refl
    by Numeral.Not e = stop (λ h. let z : ◌≡◌ {A = ℕ} 0 1 = cc h.1 in omega arith) (rw (no_name n (code_in w) (no_code w e)))

pub name-walked : (n : ℕ) (words : List Piece) → Walked (Name n) (name_walk n) fault_at words
name-walked n words = walked (Name n) (name_walk n) fault_at (name-turn n) words

-- ---- 10

module _ (n end : ℕ) (line : List ℕ) (all : AllPass (Name n) (words_at line 0)) where
  abbrev name_words : List Piece
  name_words = words_at line 0

  value-numbers : (words : List Piece) → AllPass (Value name_words) words → AllNumbers words
  value-numbers words pass y m = let r = split_at m in let h = pass r.0 r.1 y r.2 in (h.0, h.1)

  named : (v : ℕ) → (has (names_on line) v ≡ true) ↔ HasSize name_words v
  unfolding names_on
  named v = sized name_words (name-numbers n name_words all) v

  -- a word whose size is a name, by the walk's test
  named-word : (w : Piece) (x : Number) → Reads w x → (is_value (names_on line) (code_in w) ≡ true) ↔ HasSize name_words x.size
  named-word w x reads = rw (size_of w x reads) (named x.size)

  no_value : (w : Piece) → numeral_of w.bytes ≡ Numeral.Not → is_value (names_on line) (code_in w) ≡ false
  no_value w e = not_so (is_value (names_on line) (code_in w)) (λ t.
      let m = (named (variable w)).0 t in
      let r = split_at m.1 in
      let h = all r.0 r.1 m.0 r.2 in
      omega (arith, h.3, size_of m.0 h.0 h.1, size_of m.0 m.2 m.3, m.4, no_code w e))

  abbrev pub value_walk : List Piece → List Piece → Option ℕ
  value_walk before words = bad_value_after (names_on line) end (seen before) words

  value-turn : (before : List Piece) (w : Piece) (after : List Piece) → AllPass (Value name_words) before → Turn (Value name_words) value_walk fault_at before w after
  unfolding bad_value_after
  value-turn before w after p = by (numeral_of w.bytes) refl
    where
      numbers : AllNumbers before
      numbers = value-numbers before p

      test : (x : Number) → Reads w x → (t : Bool) → (is_value (names_on line) (code_in w) && not (has (seen before) (variable w))) ≡ t
          → Turn (Value name_words) value_walk fault_at before w after
      test x e true q =
          let name = (named-word w x e).0 (and_l (is_value (names_on line) (code_in w)) (not (has (seen before) (variable w))) q) in
          on
          (x, e, name, new_word before numbers w x e (and_r (is_value (names_on line) (code_in w)) (not (has (seen before) (variable w))) q))
          (rw (q, seen_more [] before w))
      test x e false q =
          stop (λ h. never (sym q ∙ and_both ((named-word w h.0 h.1).1 h.2) (new-test before numbers w h.0 h.1 h.3))) (rw q)

      by : (x : Numeral) → numeral_of w.bytes ≡ x → Turn (Value name_words) value_walk fault_at before w after
      by (Numeral.Is x) e = test x e (is_value (names_on line) (code_in w) && not (has (seen before) (variable w))) refl
      by Numeral.Not e = stop (λ h. let z : ◌≡◌ {A = ℕ} 0 1 = cc h.1 in omega arith) (rw (no_value w e))

  pub value-walked : (words : List Piece) → Walked (Value name_words) value_walk fault_at words
  value-walked words = walked (Value name_words) value_walk fault_at value-turn words

  -- the walk's end: too few values, or none missing
  pub value-end : (words : List Piece) → value_walk words [] ≡ cond (ltb (length words) (length name_words)) (Some end) None
  unfolding bad_value_after names_on
  value-end words = let size : length (seen words) ≡ length words = omega (arith, seen-length [] words) in rw (size, length-map name_words variable)

-- ---- 31

-- names are numbers without a sign
abbrev AllNames : List Piece → Type 0
AllNames words = (y : Piece) → Memᴰ y words → (x : Number) × Reads y x × (x.negative ≡ false)

-- a name and a value are the same number, and by their codes
module _ (name value : Piece) (x : Number) (named : Reads name x) (plus : x.negative ≡ false) where
  one_number : Reads value x → code_in value ≡ 2 * variable name
  one_number same = let code = rw plus at (coded value x same).code in omega (arith, size_of name x named, code)

  one_code : (y : Number) → Reads value y → code_in value ≡ 2 * variable name → Reads value x
  one_code y reads e =
      let even : is_negative (code_in value) ≡ false = ne_eqb (code_in value % 2) 1 (λ odd. omega arith) in
      let sign : y.negative ≡ false = sym (sign_of value y reads) ∙ even in
      let size : y.size ≡ x.size = omega (arith, size_of value y reads, size_of name x named) in
      reads ∙ ap₂ (λ (s : ℕ) (b : Bool). Numeral.Is (record { size = s; negative = b })) size (sign ∙ sym plus)

-- place by place
abbrev EachOwn : List Piece → List Piece → Type 0
EachOwn names values = (k : ℕ) → k < length (map variable names) → get_or (map code_in values) k 0 ≡ 2 * get_or (map variable names) k 0

same_numbers : (names values : List Piece) → AllNames names → AllNumbers values → length values ≡ length names → SameNumbers names values ↔ EachOwn names values
unfolding SameNumbers
same_numbers [] [] named numbers e = (λ same k h. absurd (not-suc-le-zero h), λ own. tt)
same_numbers [] (value ∷ values) named numbers e = absurd (omega arith)
same_numbers (name ∷ names) [] named numbers e = absurd (omega arith)
same_numbers (name ∷ names) (value ∷ values) named numbers e =
    let rest = same_numbers names values (λ y m. named y (Memᴰ.tail m)) (λ y m. numbers y (Memᴰ.tail m)) (omega (arith, e)) in
    (to rest.0, from rest.1)
  where
    first : (x : Number) × Reads name x × (x.negative ≡ false)
    first = named name (Memᴰ.head refl)

    to : (SameNumbers names values → EachOwn names values) → SameNumbers (name ∷ names) (value ∷ values) → EachOwn (name ∷ names) (value ∷ values)
    to rest same zero h =
        let z = same.0 in
        one_number name value z.0 z.1 (sym (sign_of name z.0 z.1) ∙ sign_of name first.0 first.1 ∙ first.2) z.2
    to rest same (suc k) h = rest same.1 k (le_of_suc-le-suc h)

    from : (EachOwn names values → SameNumbers names values) → EachOwn (name ∷ names) (value ∷ values) → SameNumbers (name ∷ names) (value ∷ values)
    from rest own =
        let y = numbers value (Memᴰ.head refl) in
        ((first.0, first.1, one_code name value first.0 first.1 first.2 y.0 y.1 (own 0 (omega arith))), rest (λ k h. own (suc k) (omega arith)))

-- "every value equals its name" exactly where the row that the lines state moves nothing
pub idle-iff : (n : ℕ) (names values : List ℕ) → AllPass (Name n) (words_at names 0) → AllPass (Value (words_at names 0)) (words_at values 0)
    → stated_by n names values ≡ Ok tt → SameNumbers (words_at names 0) (words_at values 0) ↔ (moves_nothing (row_stated n names values) ≡ true)
unfolding names_on values_on
idle-iff n names values named valued stated =
    let own = each-own-iff n names values stated in
    let many : length (words_at values 0) ≡ length (words_at names 0) =
    omega (arith, (in_order n names values stated).as_many, length-map (words_at values 0) code_in, length-map (words_at names 0) variable) in
    let same = same_numbers (words_at names 0) (words_at values 0) names-plain (value-numbers n (length values) names named (words_at values 0) valued) many in
    (λ s. own.1 (same.0 s), λ e. same.1 (own.0 e))
  where
    names-plain : AllNames (words_at names 0)
    names-plain y m = let r = split_at m in let h = named r.0 r.1 y r.2 in (h.0, h.1, h.2)

-- ---- 11

module _ (row : List ℕ) (formula : List (List ℕ)) where
  abbrev pub clause_walk : List (List ℕ) → List (List ℕ) → ℕ
  clause_walk before clauses = missing_from row (judged formula) (length before + 1) clauses

  abbrev pub number_at : List (List ℕ) → List ℕ → List (List ℕ) → ℕ
  number_at before clause after = length before + 1

  clause-turn : (before : List (List ℕ)) (clause : List ℕ) (after : List (List ℕ)) → AllPass (HasImage row formula) before
      → Turn (HasImage row formula) clause_walk number_at before clause after
  unfolding missing_from
  clause-turn before clause after p = by (has_opposites clause) refl (has_image row (judged formula) clause) refl
    where
      by : (p : Bool) → has_opposites clause ≡ p → (t : Bool) → has_image row (judged formula) clause ≡ t → Turn (HasImage row formula) clause_walk number_at before clause after
      by true q t e = on (λ none. never (sym none ∙ q)) (rw (q, length-append before (clause ∷ [])))
      by false q true e = on (λ none. (has_image-iff row (judged formula) clause).0 e) (rw (q, e, length-append before (clause ∷ [])))
      by false q false e = stop (λ h. never (sym e ∙ (has_image-iff row (judged formula) clause).1 (h q))) (rw (q, e))

  pub clause-walked : Walked (HasImage row formula) clause_walk number_at formula
  clause-walked = walked (HasImage row formula) clause_walk number_at clause-turn formula
