-- The documented reasons to refuse (document 01, "Turned back by what was lent", "Turned back by the store"; document 02): first each sentence by its number, with the
-- place that it names, then for each call the list of its reasons in the order in which they count. They have the names of `Refusal`'s cases. `demand-1`
-- (proofs/Demand1.antt) says that a call refuses exactly where a reason of its list holds and comes first. Assumes nothing.
use Rattle.std.specs.Prelude.{◌≡◌, Result, Some, None, Ok, Err, Bool, true, false, cond, not, ◌⊎◌, ℕ, ◌+◌, ◌≤◌, ◌<◌, length, eqb}
use mathlib.Core.List.{List, [], ◌∷◌, ◌++◌, Memᴰ}
use Rattle.dimacs.specs.Words.{Piece, words_at}
use Rattle.dimacs.specs.Lines.{lines_at}
use Rattle.dimacs.specs.Numbers.{Numeral, numeral_of}
use Rattle.dimacs.specs.declared.Number.{Number}
use Rattle.comments.specs.Comments.{is_comment}
use Rattle.packed.specs.Words.{max_words, word_count, is_assignment}
use Rattle.quality.specs.Efficiency.{max_labelled}
use Rattle.store.specs.Stores.{Store, plain_of, max_variables, max_clauses, max_literals, max_rows}
use Rattle.standing.specs.Keyed.{Keyed, well_formed}
use Rattle.store.specs.declared.refusal.Refusal.{Refusal}
use Rattle.opening.specs.Problem.{sizes_of, problem_of}
use Rattle.opening.specs.Opening.{body_of}
use Rattle.opening.specs.declared.Problem.{Problem}
use Rattle.symmetry.specs.Sets.{Among}
use Rattle.symmetry.specs.Judged.{has_opposites, judged}
use Rattle.symmetry.specs.Symmetry.{clause_image}
use Rattle.offering.specs.Offering.{row_for, images_needed}
use Rattle.lexleader.specs.Store.{variables_of, clauses_of}
use Rattle.emit.specs.Emit.{header_of, line_of}

-- A documented reason to refuse: its number, and at which places it holds.
pub record Reason : Type 1 where
  pub number : ℕ
  pub at : ℕ → Type 0

-- the reason with this number holds at this place, and no reason before it holds anywhere
unfoldable pub comes_first : List Reason → ℕ → ℕ → Type 0
comes_first [] number place = ⊥
comes_first (r ∷ reasons) number place = ((number ≡ r.number) × r.at place) ⊎ (((p : ℕ) → r.at p → ⊥) × comes_first reasons number place)

-- a reason that holds under a condition, at one place only
abbrev pub reason : ℕ → Type 0 → ℕ → Reason
reason number condition place = record { number = number; at = λ p. condition × (p ≡ place) }

-- the first of a list that fails, where it may matter what stands before it
module _ {A : Type 0} (Passes : List A → A → Type 0) where
  abbrev pub AllPass : List A → Type 0
  AllPass all = (before after : List A) (it : A) → all ≡ before ++ (it ∷ after) → Passes before it

  pub record FirstFailing (all : List A) : Type 0 where
    pub before : List A
    pub it : A
    pub after : List A
    pub stands : all ≡ before ++ (it ∷ after)
    pub passed : AllPass before
    pub fails : Passes before it → ⊥

-- ---- what the text is: 1 to 6

abbrev pub Comment : List Piece → Piece → Type 0
Comment before line = is_comment line ≡ true

-- "1. No problem line of the form above; first line that doesn't start with `c`, or the text's length."
abbrev pub no_problem_line : List ℕ → Reason
no_problem_line text = record {
  number = 1;
  at = λ p. ((f : FirstFailing Comment (lines_at text 0)) × (sizes_of f.it.bytes ≡ None) × (p ≡ f.it.place))
      ⊎ (AllPass Comment (lines_at text 0) × (p ≡ length text));
}

-- "2. n or m over its limit; problem line."
abbrev pub size_over_limit : List ℕ → Reason
size_over_limit text = record {
  number = 2;
  at = λ p. (f : FirstFailing Comment (lines_at text 0)) × (n : ℕ) × (m : ℕ) × (sizes_of f.it.bytes ≡ Some (record { variables = n; clauses = m }))
      × ((max_variables < n) ⊎ (max_clauses < m)) × (p ≡ f.it.place);
}

-- the word is the number x, and it is some number
abbrev pub Reads : Piece → Number → Type 0
Reads w x = numeral_of w.bytes ≡ Numeral.Is x

abbrev pub IsNumber : Piece → Type 0
IsNumber w = (x : Number) × Reads w x

-- "3. A word that is no number."
abbrev pub not_number : Piece → Reason
not_number w = reason 3 (IsNumber w → ⊥) w.place

-- "4. A literal beyond n."
abbrev pub literal_beyond : ℕ → Piece → Reason
literal_beyond n w = reason 4 ((x : Number) × Reads w x × (n < x.size)) w.place

-- "clauses: literals, closed by `0`": how many clauses some words close, and how many literals they are
unfoldable pub count_of : (Numeral → Bool) → List Piece → ℕ
count_of test [] = 0
count_of test (w ∷ words) = cond (test (numeral_of w.bytes)) 1 0 + count_of test words

abbrev pub is_zero : Numeral → Bool
is_zero (Numeral.Is x) = eqb x.size 0
is_zero Numeral.Not = false

abbrev pub is_nonzero : Numeral → Bool
is_nonzero (Numeral.Is x) = not (eqb x.size 0)
is_nonzero Numeral.Not = false

abbrev pub closed_by : List Piece → ℕ
closed_by words = count_of is_zero words

abbrev pub literals_by : List Piece → ℕ
literals_by words = count_of is_nonzero words

-- "5. Literal 12,289." Here and in 6, `before` are the words between the problem line and this one, comments left out.
abbrev pub too_many_literals : List Piece → Piece → Reason
too_many_literals before w = reason 5 ((x : Number) × Reads w x × (0 < x.size) × (literals_by before ≡ max_literals)) w.place

-- "6. A word after m clauses are closed, or the end before that (place: length)."
abbrev pub clause_over : ℕ → List Piece → Piece → Reason
clause_over m before w = reason 6 (closed_by before ≡ m) w.place

abbrev pub clause_missing : ℕ → List Piece → ℕ → Reason
clause_missing m words end = reason 6 (closed_by words < m) end

-- ---- what the lines of an offer are: 7 to 11, and 31

abbrev pub Numeric : List Piece → Piece → Type 0
Numeric before w = IsNumber w

-- "7. Names line: a word that is no number." "9. Value line: a word that is no number."
abbrev pub word_not_number : ℕ → List ℕ → Reason
word_not_number number line = record { number = number; at = λ p. (f : FirstFailing Numeric (words_at line 0)) × (p ≡ f.it.place) }

-- one of these words is a number of this size
abbrev pub HasSize : List Piece → ℕ → Type 0
HasSize words size = (y : Piece) × Memᴰ y words × (x : Number) × Reads y x × (x.size ≡ size)

-- names are never signed, so no two are of one size
abbrev pub Name : ℕ → List Piece → Piece → Type 0
Name n before w = (x : Number) × Reads w x × (x.negative ≡ false) × (1 ≤ x.size) × (x.size ≤ n) × (HasSize before x.size → ⊥)

-- "8. A name outside 1..n or repeated, or no name (place: length)."
abbrev pub bad_name : ℕ → List ℕ → Reason
bad_name n line = record {
  number = 8;
  at = λ p. ((f : FirstFailing (Name n) (words_at line 0)) × (p ≡ f.it.place)) ⊎ ((words_at line 0 ≡ []) × (p ≡ length line));
}

-- "A value may now be -i: its size must be a name not yet used, by the old rule 10." (document 02, CR 6)
abbrev pub Value : List Piece → List Piece → Piece → Type 0
Value names before w = (x : Number) × Reads w x × HasSize names x.size × (HasSize before x.size → ⊥)

-- "10. A value that isn't a name or is repeated, or too few (place: length)."
abbrev pub bad_value : List Piece → List ℕ → Reason
bad_value names line = record {
  number = 10;
  at = λ p. ((f : FirstFailing (Value names) (words_at line 0)) × (p ≡ f.it.place))
      ⊎ (AllPass (Value names) (words_at line 0) × (length (words_at line 0) < length names) × (p ≡ length line));
}

-- the two lines have the same numbers, place by place
unfoldable pub SameNumbers : List Piece → List Piece → Type 0
SameNumbers [] [] = Unit {0}
SameNumbers [] (value ∷ values) = ⊥
SameNumbers (name ∷ names) [] = ⊥
SameNumbers (name ∷ names) (value ∷ values) = ((x : Number) × Reads name x × Reads value x) × SameNumbers names values

-- "Refusal 31, place 0, is given where every value equals its name" (document 02, CR 8)
abbrev pub moves_nothing : List Piece → List Piece → Reason
moves_nothing names values = reason 31 (SameNumbers names values) 0

-- of a clause without a contradictory pair the image is, as a set, one of the clauses without
abbrev pub HasImage : List ℕ → List (List ℕ) → List (List ℕ) → List ℕ → Type 0
HasImage row formula before clause = has_opposites clause ≡ false → Among (clause_image row clause) (judged formula)

-- "11 gives the first of these whose image is missing, by its number in the whole formula" (document 02, CR 7)
abbrev pub no_symmetry : List ℕ → List (List ℕ) → Reason
no_symmetry row formula = record { number = 11; at = λ p. (f : FirstFailing (HasImage row formula) formula) × (p ≡ length f.before + 1) }

-- ---- what else is lent: 12 to 14

-- "12. An assignment of the wrong length or with a spare bit set; place 0."
abbrev pub bad_assignment : ℕ → List ℕ → Reason
bad_assignment n a = reason 12 (is_assignment n a ≡ false) 0

-- one call "refuses unequal lengths or more than 519 words .. with 12"
abbrev pub not_comparable : List ℕ → List ℕ → Reason
not_comparable a b = reason 12 ((length a ≡ length b → ⊥) ⊎ (max_words < length a)) 0

-- "13. Clause number 0 or above M; place 0."
abbrev pub no_such_clause : Store → ℕ → Reason
no_such_clause s q = reason 13 ((q ≡ 0) ⊎ (clauses_of s < q)) 0

-- "14. Not unlabelled ≤ allowed ≤ labelled, or labelled = unlabelled, or labelled over 10^12; place 0."
abbrev pub no_figure : ℕ → ℕ → ℕ → Reason
no_figure labelled unlabelled allowed =
    reason 14 (((unlabelled ≤ allowed) × (allowed ≤ labelled) → ⊥) ⊎ ((labelled ≡ unlabelled) ⊎ (max_labelled < labelled))) 0

-- ---- what the store is: 20 to 23, 30

-- "20. Not open."
abbrev pub not_open : Store → Reason
not_open s = reason 20 (s.counts.is_open ≡ false) 0

-- "21. Badly formed: a slice too short for the counts, ends that fall or pass the literals, .." The whole list is `demands` (store/specs/Stores.antt). "A stored key that
-- isn't its clause's sum counts as badly formed" (document 02, CR 5): `right_keys` (keys/specs/Keys.antt).
abbrev pub badly_formed : Keyed → Reason
badly_formed s = reason 21 (well_formed s ≡ false) 0

-- "22. An offer with 64 rows held."
abbrev pub rows_full : Store → Reason
rows_full s = reason 22 (s.counts.rows ≡ max_rows) 0

-- "23. An output slice too short (place: the length needed)"
abbrev pub too_short : ℕ → ℕ → Reason
too_short needed room = reason 23 (room < needed) needed

-- "Withdrawing from a store that holds no row is refused with 30, place 0, after 21." (document 02, CR 3)
abbrev pub no_row : Store → Reason
no_row s = reason 30 (s.counts.rows ≡ 0) 0

-- ---- open: "the first fault from the left counts, and at one word the lower number, but 6 goes before 3, 4 and 5"; 23 "tried last; opening tries literals before ends", and
-- "also needs the keys slice, tried last under 23" (document 02, CR 5)

-- the words after the problem line, comments left out, from the left
unfoldable pub word_reasons : ℕ → ℕ → List Piece → List Piece → List Reason
word_reasons n m before [] = []
word_reasons n m before (w ∷ words) =
    clause_over m before w ∷ not_number w ∷ literal_beyond n w ∷ too_many_literals before w ∷ word_reasons n m (before ++ (w ∷ [])) words

-- what comes after all words, where the slices of literals, ends and keys have these lengths and the text has this one
abbrev pub end_reasons : ℕ → List Piece → ℕ → ℕ → ℕ → ℕ → List Reason
end_reasons m words end literals ends keys = clause_missing m words end ∷ too_short (literals_by words) literals ∷ too_short m ends ∷ too_short m keys ∷ []

-- n, m and the end of a problem line are those of the first line that is no comment
abbrev pub IsProblemLine : List ℕ → Problem → Type 0
IsProblemLine text p =
    (f : FirstFailing Comment (lines_at text 0)) × (sizes_of f.it.bytes ≡ Some p.sizes) × (p.end ≡ f.it.place + length f.it.bytes)

-- what comes after a problem line of n and m that ends there; where there is none, 1 or 2 holds
abbrev pub body_reasons : Result Problem Refusal → List ℕ → ℕ → ℕ → ℕ → List Reason
body_reasons (Ok p) text literals ends keys =
    word_reasons p.sizes.variables p.sizes.clauses [] (body_of text) ++ end_reasons p.sizes.clauses (body_of text) (length text) literals ends keys
body_reasons (Err r) text literals ends keys = []

abbrev pub open_reasons : Keyed → List ℕ → List Reason
open_reasons s text =
    no_problem_line text ∷ size_over_limit text ∷ body_reasons (problem_of text) text (length s.store.literals) (length s.store.ends) (length s.keys)

-- ---- the calls that need an open store: 20 and 21 "come first, in this order"

abbrev pub on_store_reasons : Keyed → List Reason → List Reason
on_store_reasons s reasons = not_open s.store ∷ badly_formed s ∷ reasons

-- "An offer tries 7, 8, 9, 10, 11 in that order, each over its whole line", and 31 "after 10 and before 11"
abbrev pub offer_reasons : Keyed → List ℕ → List ℕ → List Reason
offer_reasons s names values =
    on_store_reasons s
    (rows_full s.store
    ∷ word_not_number 7 names
    ∷ bad_name s.store.counts.variables names
    ∷ word_not_number 9 values
    ∷ bad_value (words_at names 0) values
    ∷ moves_nothing (words_at names 0) (words_at values 0)
    ∷ no_symmetry (row_for s.store names values) (plain_of s.store)
    ∷ too_short (images_needed s.store) (length s.store.images)
    ∷ [])

abbrev pub withdraw_reasons : Keyed → List Reason
withdraw_reasons s = on_store_reasons s (no_row s.store ∷ [])

-- no more than these two (document 02, CR 10)
abbrev pub figures_reasons : Keyed → List Reason
figures_reasons s = on_store_reasons s []

abbrev pub header_reasons : Keyed → ℕ → List Reason
header_reasons s room = on_store_reasons s (too_short (length (header_of s.store)) room ∷ [])

abbrev pub clause_reasons : Keyed → ℕ → ℕ → List Reason
clause_reasons s q room = on_store_reasons s (no_such_clause s.store q ∷ too_short (length (line_of s.store q)) room ∷ [])

abbrev pub fill_reasons : Keyed → List ℕ → ℕ → List Reason
fill_reasons s a room = on_store_reasons s (bad_assignment s.store.counts.variables a ∷ too_short (word_count (variables_of s.store)) room ∷ [])

abbrev pub check_reasons : Keyed → List ℕ → List Reason
check_reasons s a = on_store_reasons s (bad_assignment (variables_of s.store) a ∷ [])

abbrev pub descend_reasons : Keyed → List ℕ → List Reason
descend_reasons s a = on_store_reasons s (bad_assignment s.store.counts.variables a ∷ [])

-- ---- the calls that need none

abbrev pub compare_reasons : List ℕ → List ℕ → List Reason
compare_reasons a b = not_comparable a b ∷ []

abbrev pub efficiency_reasons : ℕ → ℕ → ℕ → List Reason
efficiency_reasons labelled unlabelled allowed = no_figure labelled unlabelled allowed ∷ []
