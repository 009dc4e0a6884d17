-- The program prints no 20, 21 or 23, and 15 exactly for its two reasons. What carries it: every test of opening and offering refuses with a number of its
-- own, so that the number of an answer, 0 for none, is bounded test by test. Assumes nothing.
use Rattle.std.proofs.Common.{Option, Result, Some, None, Ok, Err}
use mathlib.Core.Path.{◌≡◌, refl, sym, ap, subst, ◌∙◌}
use mathlib.Core.Bool.{Bool, true, false, cond, not, ◌&&◌}
use mathlib.Core.List.{List, [], ◌∷◌}
use mathlib.Core.Logic.{◌⊎◌, inl, inr, ⊎_elim, ◌↔◌}
use Prim.Native.Nat.{ℕ, ◌+◌, ◌*◌, ◌≤◌}
use native.Mathlib.Nat.{mul-le-mul_right}
use native.Mathlib.Omega.{arith}
use lib.ListN.{length, take}
use lib.Dec.{eqb, leb, ltb}
use Rattle.lists.proofs.Cases.{never, lt-or-le}
use Rattle.dimacs.specs.Words.{Piece}
use Rattle.dimacs.specs.Lines.{lines_at}
use Rattle.dimacs.specs.Numbers.{numeral_of}
use Rattle.store.specs.Literals.{variable_of}
use Rattle.store.specs.Numerals.{is_numeral, code_in}
use Rattle.store.specs.Refusals.{Said, done, refused, number_of, said as told}
use Rattle.store.specs.Stores.{max_variables, max_clauses, max_literals, max_rows}
use Rattle.standing.specs.Keyed.{Keyed, well_formed}
use Rattle.store.specs.declared.refusal.Refusal.{Refusal}
use Rattle.store.proofs.Demands.{rest_of}
use Rattle.store.proofs.RowChanges.{with-row-images}
use Rattle.standing.proofs.StandingLaws.{its-form}
use Rattle.comments.specs.Comments.{after_comments}
use Rattle.opening.specs.Problem.{within_limits, problem_in, problem_of, sizes_of}
use Rattle.opening.specs.Clauses.{scan_from}
use Rattle.opening.specs.Opening.{body_of, opened_if, opened_after, opened_by}
use Rattle.opening.specs.declared.Problem.{Problem}
use Rattle.opening.specs.declared.Sizes.{Sizes}
use Rattle.opening.proofs.ProblemLaws.{line-limits}
use Rattle.opening.proofs.DoneLaws.{counted}
use Rattle.opening.proofs.OpeningLaws.{long-enough}
use Rattle.permutation.proofs.RowLaws.{row-length}
use Rattle.offering.specs.Offering.{row_for}
use Rattle.calls.specs.Calls.{Accepted, accepted, Dimensions, open_says, open_store, offer_says, offer_store}
use Rattle.demands.specs.Lists.{after}
use Rattle.demands.proofs.Decided.{Decided, shut, misformed, full, unstated, idle, asymmetric, short, taken, decided}
use Rattle.demands.proofs.Acceptance.{permitted, store-accepted, accepted-formed}
use Rattle.demands.proofs.AfterCalls.{after-opening}
use Rattle.session.specs.Input.{max_input, from_divider}
use Rattle.session.specs.Session.{Ended, ended, offer_all, offer_lines, if_opened, divided, session_of}
use Rattle.session.specs.Numbers.{Ample, FromInput, BadInput}
use Rattle.session.proofs.SessionLaws.{offer-refused, offer-accepted, too_long, within}
use Rattle.session.proofs.Theorem.{said_of}

-- ---- the number of an answer, 0 where it is no refusal

abbrev number_in : {Values : Type 0} → Result Values Refusal → ℕ
number_in (Ok v) = 0
number_in (Err r) = number_of r

abbrev said_number : {Values : Type 0} → Said Values → ℕ
said_number (done v) = 0
said_number (refused number place) = number

abbrev said_place : Said Accepted → ℕ
said_place (done a) = 0
said_place (refused number place) = place

-- ---- opening: 1 to 6, and 23 only where a slice is too short

limits-number : (sizes : Option Sizes) (place end : ℕ) → number_in (within_limits sizes place end) ≤ 6
limits-number (Some sizes) place end = by (leb sizes.variables max_variables && leb sizes.clauses max_clauses)
  where
    by : (b : Bool) → number_in {Values = Problem} (cond b (Ok (record { sizes = sizes; end = end })) (Err (Refusal.SizeOverLimit place))) ≤ 6
    by true = omega arith
    by false = omega arith
limits-number None place end = omega arith

problem-number : (text : List ℕ) → number_in (problem_of text) ≤ 6
unfolding problem_of problem_in
problem-number text = by (after_comments (lines_at text 0))
  where
    by : (lines : List Piece) → number_in (problem_in (length text) lines) ≤ 6
    by [] = omega arith
    by (line ∷ lines) = limits-number (sizes_of line.bytes) line.place (line.place + length line.bytes)

scan-number : (end n m closed count : ℕ) (words : List Piece) → number_in (scan_from end n m closed count words) ≤ 6
unfolding scan_from
scan-number end n m closed count [] = by (eqb closed m)
  where
    by : (b : Bool) → number_in {Values = ℕ} (cond b (Ok count) (Err (Refusal.ClauseCount end))) ≤ 6
    by true = omega arith
    by false = omega arith
scan-number end n m closed count (w ∷ words) =
    by (scan_from end n m (closed + 1) count words) (scan-number end n m (closed + 1) count words)
    (scan_from end n m closed (count + 1) words) (scan-number end n m closed (count + 1) words)
    (eqb closed m) (not (is_numeral (numeral_of w.bytes))) (eqb (code_in w) 0) (ltb n (variable_of (code_in w))) (eqb count max_literals)
  where
    by : (x : Result ℕ Refusal) → number_in x ≤ 6 → (y : Result ℕ Refusal) → number_in y ≤ 6 → (a b c d e : Bool)
        → number_in {Values = ℕ} (cond a (Err (Refusal.ClauseCount w.place))
        (cond b (Err (Refusal.NotNumber w.place))
        (cond c x
        (cond d (Err (Refusal.LiteralBeyond w.place))
        (cond e (Err (Refusal.TooManyLiterals w.place)) y))))) ≤ 6
    by x hx y hy true b c d e = omega arith
    by x hx y hy false true c d e = omega arith
    by x hx y hy false false true d e = hx
    by x hx y hy false false false true e = omega arith
    by x hx y hy false false false false true = omega arith
    by x hx y hy false false false false false = hy

-- a number that no call within a session says
abbrev Inner : ℕ → Type 0
Inner number = (number ≤ 11) ⊎ (20 ≤ number)

open-number : (s : Keyed) (text : List ℕ) → Inner (said_number (open_says s text))
unfolding open_says opened_by
open-number s text = problem (problem_of text) (problem-number text)
  where
    room : (count : ℕ) (sizes : Sizes) (a b c : Bool)
        → Inner (said_number (told {Values = Sizes} (cond (not a) (Err (Refusal.TooShort count)) (cond (not b) (Err (Refusal.TooShort sizes.clauses)) (cond (not c) (Err (Refusal.TooShort sizes.clauses)) (Ok sizes))))))
    room count sizes true true true = inl (omega arith)
    room count sizes true true false = inr (omega arith)
    room count sizes true false c = inr (omega arith)
    room count sizes false b c = inr (omega arith)

    scan : (x : Result ℕ Refusal) → number_in x ≤ 6 → (sizes : Sizes) → Inner (said_number (told (opened_if x sizes (length s.store.literals) (length s.store.ends) (length s.keys))))
    scan (Ok count) h sizes = room count sizes (leb count (length s.store.literals)) (leb sizes.clauses (length s.store.ends)) (leb sizes.clauses (length s.keys))
    scan (Err r) h sizes = inl (omega arith)

    problem : (p : Result Problem Refusal) → number_in p ≤ 6 → Inner (said_number (told (opened_after p (body_of text) (length text) (length s.store.literals) (length s.store.ends) (length s.keys))))
    problem (Ok p) h =
        let n = p.sizes.variables in
        let m = p.sizes.clauses in
        scan (scan_from (length text) n m 0 0 (body_of text)) (scan-number (length text) n m 0 0 (body_of text)) p.sizes
    problem (Err r) h = inl (omega arith)

-- with slices as long as the limits there is no 23
open-low : (s : Keyed) → Ample s → (text : List ℕ) → said_number (open_says s text) ≤ 6
unfolding open_says opened_by
open-low s ample text = problem (problem_of text) refl (problem-number text)
  where
    scan : (sizes : Sizes) → sizes.clauses ≤ max_clauses → (x : Result ℕ Refusal) → scan_from (length text) sizes.variables sizes.clauses 0 0 (body_of text) ≡ x → number_in x ≤ 6
        → said_number (told (opened_if x sizes (length s.store.literals) (length s.store.ends) (length s.keys))) ≤ 6
    scan sizes few (Ok count) e h =
        let fits = (counted (length text) sizes.variables sizes.clauses count (body_of text) 0 0 e).total-within (omega arith) in
        rw (long-enough sizes count (length s.store.literals) (length s.store.ends) (length s.keys) (omega (arith, fits, ample.literals)) (omega (arith, ample.ends)) (omega (arith, ample.keys))) (omega arith)
    scan sizes few (Err r) e h = h

    problem : (p : Result Problem Refusal) → problem_of text ≡ p → number_in p ≤ 6 → said_number (told (opened_after p (body_of text) (length text) (length s.store.literals) (length s.store.ends) (length s.keys))) ≤ 6
    problem (Ok p) e h =
        scan p.sizes (line-limits text p e).clauses (scan_from (length text) p.sizes.variables p.sizes.clauses 0 0 (body_of text)) refl
        (scan-number (length text) p.sizes.variables p.sizes.clauses 0 0 (body_of text))
    problem (Err r) e h = h

-- ---- an offer: 20 and 21 by the store, 22, 7 to 11, 31, and 23 only where the images slice is too short

from-input : (number : ℕ) → number ≤ 15 → FromInput number
from-input number h = record { opened = λ e. omega arith; formed = λ e. omega arith; roomy = λ e. omega arith }

module _ (s : Keyed) (names values : List ℕ) where
  -- whatever the store
  offer-number : Inner (said_number (offer_says s names values))
  offer-number = by (decided s names values)
    where
      by : Decided s names values → Inner (said_number (offer_says s names values))
      by (shut q e) = rw e (inr (omega arith))
      by (misformed q e) = rw e (inr (omega arith))
      by (full e) = rw e (inr (omega arith))
      by (unstated r h e) = rw e (inl (omega (arith, h)))
      by (idle a h e) = rw e (inr (omega arith))
      by (asymmetric e) = rw e (inl (omega arith))
      by (short a h e) = rw e (inr (omega arith))
      by (taken a moving none room e) = rw e (inl (omega arith))

  -- of an open, well-formed store with an images slice as long as the limits
  offer-from-input : s.store.counts.is_open ≡ true → well_formed s ≡ true → max_rows * max_variables ≤ length s.store.images → FromInput (said_number (offer_says s names values))
  offer-from-input opened formed long = by (decided s names values)
    where
      by : Decided s names values → FromInput (said_number (offer_says s names values))
      by (shut q e) = never (sym q ∙ opened)
      by (misformed q e) = never (sym q ∙ formed)
      by (full e) = rw e (record { opened = λ q. omega arith; formed = λ q. omega arith; roomy = λ q. omega arith })
      by (unstated r h e) = rw e (from-input (number_of r) (omega (arith, h)))
      by (idle a h e) = rw e (record { opened = λ q. omega arith; formed = λ q. omega arith; roomy = λ q. omega arith })
      by (asymmetric e) = rw e (from-input 11 (omega arith))
      by (short a h e) =
          let rows : s.store.counts.rows + 1 ≤ max_rows = omega (arith, a.not_full) in
          let most = mul-le-mul_right s.store.counts.variables rows in
          absurd (omega (arith, h, (rest_of s.store (its-form s formed)).variables-fit, most))
      by (taken a moving none room e) = rw e (from-input 0 (omega arith))

-- ---- the value lines

ended-number : {a b : Ended} → a ≡ b → said_number a.said ≡ said_number b.said
ended-number e = ap said_number (said_of e)

-- what the number of every offer meets, the number of the whole does
offers-number : (P : ℕ → Type 0) → P 0 → (Q : Keyed → Type 0)
    → ((s : Keyed) (names values : List ℕ) → Q s → P (said_number (offer_says s names values)))
    → ((s : Keyed) (names values : List ℕ) → Q s → offer_says s names values ≡ done accepted → Q (offer_store s names values))
    → (s : Keyed) (names : List ℕ) (lines : List Piece) → Q s → P (said_number (offer_all s names lines).said)
unfolding offer_all
offers-number P none Q each keeps s names [] h = none
offers-number P none Q each keeps s names (values ∷ lines) h =
    by (offer_says s names values.bytes) refl (each s names values.bytes h)
    (λ q. offers-number P none Q each keeps (offer_store s names values.bytes) names lines (keeps s names values.bytes h q))
  where
    by : (said : Said Accepted) → offer_says s names values.bytes ≡ said → P (said_number said)
        → (offer_says s names values.bytes ≡ done accepted → P (said_number (offer_all (offer_store s names values.bytes) names lines).said))
        → P (said_number (offer_all s names (values ∷ lines)).said)
    by (refused number place) e h rest = subst P (sym (ended-number (offer-refused s names values lines number place e))) h
    by (done u) e h rest = subst P (sym (ended-number (offer-accepted s names values lines e))) (rest e)

-- ---- the session

-- what the numbers of opening and of every offer meet, the number of a session that has a `%` line does
module _ (P : ℕ → Type 0) (none : P 0) (Q : Keyed → Type 0)
    (each : (s : Keyed) (names values : List ℕ) → Q s → P (said_number (offer_says s names values)))
    (keeps : (s : Keyed) (names values : List ℕ) → Q s → offer_says s names values ≡ done accepted → Q (offer_store s names values))
    (s : Keyed) (opens : (text : List ℕ) → P (said_number (open_says s text)))
    (leaves : (text : List ℕ) (sizes : Dimensions) → open_says s text ≡ done sizes → Q (open_store s text)) where
  lines-number : (t : Keyed) (lines : List Piece) → Q t → P (said_number (offer_lines t lines).said)
  lines-number t [] h = none
  lines-number t (names ∷ values) h = offers-number P none Q each keeps t names.bytes values h

  divided-number : (input : List ℕ) (divider : Piece) (lines : List Piece) → P (said_number (divided s input (divider ∷ lines)).said)
  divided-number input divider lines = by (open_says s text) refl (opens text)
    where
      text : List ℕ
      text = take divider.place input

      by : (said : Said Dimensions) → open_says s text ≡ said → P (said_number said) → P (said_number (if_opened said (open_store s text) lines).said)
      by (done sizes) e h = lines-number (open_store s text) lines (leaves text sizes e)
      by (refused number place) e h = h

-- an open, well-formed store with an images slice as long as the limits
record StoreStands (s : Keyed) : Type 0 where
  opened : s.store.counts.is_open ≡ true
  formed : well_formed s ≡ true
  long : max_rows * max_variables ≤ length s.store.images

offer-stands : (s : Keyed) (names values : List ℕ) → StoreStands s → offer_says s names values ≡ done accepted → StoreStands (offer_store s names values)
offer-stands s names values h said =
    let is = store-accepted s names values said in
    let row = row_for s.store names values in
    record {
      opened = ap (λ (t : Keyed). t.store.counts.is_open) is ∙ h.opened;
      formed = accepted-formed s names values said;
      long = rw (is, with-row-images s.store row (row-length s.store.counts.variables names values) (permitted s names values said).room) h.long;
    }

open-stands : (s : Keyed) → Ample s → (text : List ℕ) (sizes : Dimensions) → open_says s text ≡ done sizes → StoreStands (open_store s text)
unfolding open_store after
open-stands s ample text sizes said =
    let fresh = after-opening s text sizes [] said in
    record { opened = fresh.opened; formed = fresh.sound.formed; long = ample.images }

-- the session of an input, by its two reasons to be 15
by-input : (P : ℕ → Type 0) (s : Keyed) (input : List ℕ) → (BadInput input → P 15)
    → ((divider : Piece) (lines : List Piece) → P (said_number (divided s input (divider ∷ lines)).said))
    → P (said_number (session_of s input).said)
by-input P s input bad good =
    ⊎_elim
    (λ over. subst P (sym (ended-number (too_long s input over))) (bad (inl over)))
    (λ fits. subst P (sym (ended-number (within s input fits))) (by (from_divider (lines_at input 0)) refl))
    (lt-or-le max_input (length input))
  where
    by : (lines : List Piece) → from_divider (lines_at input 0) ≡ lines → P (said_number (divided s input lines).said)
    by [] e = bad (inr e)
    by (divider ∷ lines) e = good divider lines

bad-input : (s : Keyed) (input : List ℕ) → BadInput input → session_of s input ≡ ended (refused 15 0) s
bad-input s input (inl over) = too_long s input over
bad-input s input (inr none) = ⊎_elim (λ over. too_long s input over) (λ fits. within s input fits ∙ rw none) (lt-or-le max_input (length input))

-- In slices as long as the limits, the program prints no 20, 21 or 23.
pub only-from-input : (s : Keyed) → Ample s → (input : List ℕ) (number place : ℕ) → (session_of s input).said ≡ refused number place → FromInput number
only-from-input s ample input number place e =
    subst FromInput (ap said_number e)
    (by-input FromInput s input (λ _. from-input 15 (omega arith))
    (divided-number FromInput (from-input 0 (omega arith)) StoreStands (λ t names values h. offer-from-input t names values h.opened h.formed h.long) offer-stands
    s (λ text. from-input _ (omega (arith, open-low s ample text))) (open-stands s ample) input))

-- "15. Program only, tried before all others: input over 65,536 bytes, or no `%` line; place 0", in slices of any length.
pub fifteen : (s : Keyed) (input : List ℕ) (place : ℕ) → ((session_of s input).said ≡ refused 15 place) ↔ ((place ≡ 0) × BadInput input)
fifteen s input place = (there, back)
  where
    inner : (divider : Piece) (lines : List Piece) → Inner (said_number (divided s input (divider ∷ lines)).said)
    inner = divided-number Inner (inl (omega arith)) (λ _. Unit {0}) (λ t names values _. offer-number t names values) (λ _ _ _ _ _. tt) s (open-number s) (λ _ _ _. tt) input

    reason : said_number (session_of s input).said ≡ 15 → BadInput input
    reason = by-input (λ (number : ℕ). number ≡ 15 → BadInput input) s input (λ bad _. bad) (λ divider lines e. ⊎_elim (λ h. absurd (omega arith)) (λ h. absurd (omega arith)) (inner divider lines))

    back : (place ≡ 0) × BadInput input → (session_of s input).said ≡ refused 15 place
    back h = rw h.0 (said_of (bad-input s input h.1))

    there : (session_of s input).said ≡ refused 15 place → (place ≡ 0) × BadInput input
    there e =
        let bad = reason (ap said_number e) in
        (sym (ap said_place e) ∙ ap said_place (said_of (bad-input s input bad)), bad)
