-- What each public call says, in the documents' numbers, and what the lent store holds afterwards. Assumes nothing.
use Rattle.std.specs.Prelude.{Option, Result, Ok, Err, ℕ, true, cond, ◌&&◌, List, length, eqb, leb}
use Rattle.packed.specs.Words.{max_words, bits_of, word_count, is_assignment}
use Rattle.packed.specs.Order.{all_bits, first_difference}
use Rattle.quality.specs.Efficiency.{has_efficiency, efficiency_of}
use Rattle.store.specs.Refusals.{Said, done, refused, said_refused, said, unless_refused, buffer_left}
use Rattle.store.specs.Stores.{Store, lent, with_row, without_row, held_rows, max_rows}
use Rattle.store.specs.declared.record.Record.{Record}
use Rattle.store.specs.declared.refusal.Refusal.{Refusal}
use Rattle.keys.specs.Keys.{keys_of}
use Rattle.standing.specs.Keyed.{Keyed, with_keys, standing_of}
use Rattle.opening.specs.Clauses.{literals_in, ends_from}
use Rattle.opening.specs.Opening.{body_of, formula_of, opened_by, written}
use Rattle.opening.specs.declared.Sizes.{Sizes}
use Rattle.offering.specs.Offering.{row_for, offered_by}
use Rattle.lexleader.specs.Descent.{descend}
use Rattle.lexleader.specs.Store.{variables_of}
use Rattle.emit.specs.Emit.{header_of, line_of, header_by, clause_by}
use Rattle.measure.specs.Figures.{figures_of}
use Rattle.measure.specs.declared.Figures.{Figures}
use Rattle.filling.specs.Written.{filled_words}
use Rattle.checking.specs.Checking.{Verdict, verdict_of, first_false}
use Rattle.descent.specs.Words.{Outcome, answer_of, outcome_of, descended}
use Rattle.descent.specs.declared.Descended.{Descended}

-- what a call that needs an open store says: 20 and 21 come first
abbrev pub on_store : {Values : Type 0} → Result Store Refusal → Said Values → Said Values
on_store (Ok store) said = said
on_store (Err r) said = said_refused r

-- what a result says, its values in the documents' terms
abbrev pub said_as : {Values Terms : Type 0} → (Values → Terms) → Result Values Refusal → Said Terms
said_as terms (Ok values) = done (terms values)
said_as terms (Err r) = said_refused r

-- ---- open: 1 to 6 by place, then 23. It looks at no old store, replaces it with its keys and drops its rows; a refused opening changes nothing.

-- n and m
abbrev pub Dimensions : Type 0
Dimensions = Sizes

-- by the room in what is lent
abbrev pub opened_in : Keyed → List ℕ → Result Sizes Refusal
opened_in s text = opened_by text (length s.store.literals) (length s.store.ends) (length s.keys)

unfoldable pub open_says : Keyed → List ℕ → Said Dimensions
open_says s text = said (opened_in s text)

abbrev pub counts_opened : Result Sizes Refusal → Record → Record
counts_opened (Ok sizes) old = record { variables = sizes.variables; clauses = sizes.clauses; rows = 0; is_open = true }
counts_opened (Err r) old = old

unfoldable pub open_store : Keyed → List ℕ → Keyed
open_store s text =
    let answer = opened_in s text in
    let literals = written answer (literals_in (body_of text)) s.store.literals in
    let ends = written answer (ends_from 0 (body_of text)) s.store.ends in
    with_keys (lent (counts_opened answer s.store.counts) literals ends s.store.images) (written answer (keys_of (formula_of text)) s.keys)

-- ---- offer: 20, 21, 22, then 7, 8, 9, 10, 31, 11, 23

-- what an offer that isn't refused says: no more than that
abbrev pub Accepted : Type 0
Accepted = Unit {0}

abbrev pub accepted : Accepted
accepted = tt

unfoldable pub offer_says : Keyed → List ℕ → List ℕ → Said Accepted
offer_says s names values = on_store (standing_of s) (cond (eqb s.store.counts.rows max_rows) (refused 22 0) (said (offered_by s.store names values)))

-- the store with one row more; the keys stay
unfoldable pub offer_store : Keyed → List ℕ → List ℕ → Keyed
offer_store s names values = unless_refused (offer_says s names values) (with_keys (with_row s.store (row_for s.store names values)) s.keys) s

-- ---- withdraw (document 02, CR 3): 20, 21, then 30 where no row is held

-- what a withdrawal that isn't refused says: no more than that
abbrev pub TakenBack : Type 0
TakenBack = Unit {0}

abbrev pub taken_back : TakenBack
taken_back = tt

unfoldable pub withdraw_says : Keyed → Said TakenBack
withdraw_says s = on_store (standing_of s) (cond (eqb s.store.counts.rows 0) (refused 30 0) (done taken_back))

-- only the count of rows falls: the row's entries are then past those in use, and stay
unfoldable pub withdraw_store : Keyed → Keyed
withdraw_store s = unless_refused (withdraw_says s) (with_keys (without_row s.store) s.keys) s

-- ---- figures (document 02, CR 10): 20, 21

unfoldable pub figures_says : Keyed → Said Figures
figures_says s = on_store (standing_of s) (done (figures_of s.store))

-- ---- header and clause q: "each returning its byte length; bytes past it stay". 20, 21, then 13 for a clause, then 23

unfoldable pub header_says : Keyed → ℕ → Said ℕ
header_says s room = on_store (standing_of s) (header_by s.store room)

unfoldable pub header_leaves : Keyed → List ℕ → List ℕ
header_leaves s out = buffer_left (header_says s (length out)) (header_of s.store) out

unfoldable pub clause_says : Keyed → ℕ → ℕ → Said ℕ
clause_says s q room = on_store (standing_of s) (clause_by s.store q room)

unfoldable pub clause_leaves : Keyed → ℕ → List ℕ → List ℕ
clause_leaves s q out = buffer_left (clause_says s q (length out)) (line_of s.store q) out

-- ---- compare: "one call gives that variable, or 0 when equal, and refuses unequal lengths or more than 519 words .. with 12", place 0

unfoldable pub compare_says : List ℕ → List ℕ → Said ℕ
compare_says a b =
    cond (eqb (length a) (length b) && leb (length a) max_words) (done (first_difference (all_bits a) (all_bits b))) (refused 12 0)

-- ---- fill in: 20, 21, 12, 23. It answers how many words it wrote; "Words after it stay."

unfoldable pub fill_says : Keyed → List ℕ → ℕ → Said ℕ
fill_says s a room =
    let needed = word_count (variables_of s.store) in
    on_store (standing_of s) (cond (is_assignment s.store.counts.variables a) (cond (leb needed room) (done needed) (refused 23 needed)) (refused 12 0))

unfoldable pub fill_leaves : Keyed → List ℕ → List ℕ → List ℕ
fill_leaves s a out = buffer_left (fill_says s a (length out)) (filled_words s.store.counts.variables (held_rows s.store) a) out

-- ---- check: 20, 21, 12. It "answers yes, or the first clause of the made formula that an assignment of 1..N makes false"

abbrev pub said_finding : Result (Option ℕ) Refusal → Said Verdict
said_finding = said_as verdict_of

unfoldable pub check_says : Keyed → List ℕ → Said Verdict
check_says s a = on_store (standing_of s) (cond (is_assignment (variables_of s.store) a) (done (first_false s.store a)) (refused 12 0))

-- ---- descend: 20, 21, 12. It answers settled or spent with the count of moves, and leaves the assignment reached

abbrev pub said_descent : Result Descended Refusal → Said Outcome
said_descent = said_as outcome_of

unfoldable pub descend_says : Keyed → List ℕ → ℕ → Said Outcome
descend_says s a limit =
    let n = s.store.counts.variables in
    on_store (standing_of s) (cond (is_assignment n a) (done (answer_of (descend limit (held_rows s.store) (bits_of n a)))) (refused 12 0))

unfoldable pub descend_leaves : Keyed → List ℕ → ℕ → List ℕ
descend_leaves s a limit = unless_refused (descend_says s a limit) (descended s.store.counts.variables limit (held_rows s.store) a) a

-- ---- efficiency: 14, place 0

unfoldable pub efficiency_says : ℕ → ℕ → ℕ → Said ℕ
efficiency_says labelled unlabelled allowed =
    cond (has_efficiency labelled unlabelled allowed) (done (efficiency_of labelled unlabelled allowed)) (refused 14 0)
