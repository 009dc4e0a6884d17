-- What CR 1 keeps: "Texts that opened before open to the same store, and refusals for other words keep their offsets." A former opening that met no comment after the
-- problem line read the same words; one that met a comment was refused there. Assumes nothing.
use mathlib.Core.Path.{◌≡◌, refl, sym, ap, ◌∙◌}
use mathlib.Core.Bool.{Bool, true, false, cond, not, ◌&&◌}
use mathlib.Core.List.{List, ◌∷◌}
use mathlib.Core.Logic.{◌⊎◌, inl, inr, ⊎_elim}
use Prim.Native.Nat.{ℕ, ◌+◌, ◌≤◌, ◌<◌}
use native.Mathlib.Numerals.{add-one}
use native.Mathlib.Omega.{arith}
use lib.ListN.{length, drop, get_or}
use lib.Seq.{drop-cons}
use lib.Dec.{eqb, leb, ltb}
use Rattle.std.proofs.Common.{Result, Ok, Err}
use Rattle.lists.specs.Tests.{all_of}
use Rattle.lists.proofs.Cases.{never, eq-or-ne}
use Rattle.lists.proofs.Steps.{forward}
use Rattle.dimacs.specs.Words.{is_blank, is_word_byte, run, run_end, Piece, words_from, words_at}
use Rattle.dimacs.specs.Numbers.{Size, Numeral, is_digit, digits_of, padded, size_of, numeral_of, word_at}
use Rattle.dimacs.proofs.Runs.{run-stop, run_end_lem, run-forward, opposite-true}
use Rattle.dimacs.proofs.WordLaws.{piece_at, no_word, next_word}
use Rattle.comments.specs.Comments.{starts_comment, words_past}
use Rattle.comments.proofs.RunLaws.{run_more}
use Rattle.comments.proofs.WordLaws.{past_end, past_word}
use Rattle.comments.proofs.Walk.{Step, starts, step}
use Rattle.store.specs.Literals.{variable_of}
use Rattle.store.specs.Numerals.{code_in, is_numeral}
use Rattle.store.specs.Stores.{max_literals}
use Rattle.store.specs.declared.refusal.Refusal.{Refusal}
use Rattle.opening.specs.Problem.{problem_of}
use Rattle.opening.specs.Clauses.{scan_from, literals_in, ends_from}
use Rattle.opening.specs.Opening.{body_of, opened_if, opened_after, opened_by, written}
use Rattle.opening.specs.Former.{former_body_of, formerly_opened_by}
use Rattle.opening.specs.declared.Sizes.{Sizes}
use Rattle.opening.specs.declared.Problem.{Problem}
use Rattle.opening.proofs.ScanLaws.{scan-extra, scan-word}
use Rattle.opening.proofs.OpeningLaws.{body-past, opened-past, SlicesFit, room}

-- ---- a word that starts with `c` is no number

letter-size : (r : List ℕ) → size_of (99 ∷ r) ≡ Size.Not
unfolding size_of digits_of all_of is_digit
letter-size r = by (leb 1 (length (99 ∷ r)) && leb (length (99 ∷ r)) 6 && not (padded (99 ∷ r)))
  where
    by : (t : Bool) → cond t Size.Not Size.Not ≡ Size.Not
    by true = refl
    by false = refl

letter-word : (text : List ℕ) (at : ℕ) → at < length text → get_or text at 0 ≡ 99 → numeral_of (word_at text at) ≡ Numeral.Not
unfolding numeral_of is_blank
letter-word text at h e = rw (run_more is_word_byte text at h (rw e), e, letter-size (run is_word_byte (drop (at + 1) text)))

-- ---- a blank before the words from a place on

module _ (b : ℕ) where
  feed-blank : b ≡ 10 → is_blank b ≡ true
  unfolding is_blank
  feed-blank e = rw e

  letter-ink : b ≡ 99 → is_blank b ≡ false
  unfolding is_blank
  letter-ink e = rw e

words-blank : (text : List ℕ) (at : ℕ) → at < length text → is_blank (get_or text at 0) ≡ true → words_at text at ≡ words_at text (at + 1)
unfolding words_from
words-blank text at h e = rw (drop-cons text at 0 h, e, add-one at)

-- ---- two lists of words that a scan tells apart at a comment only

module _ (text : List ℕ) where
  data Alike (former new : Result ℕ Refusal) (former-words new-words : List Piece) : Type 0 where
    same : former ≡ new → ((total : ℕ) → former ≡ Ok total → former-words ≡ new-words) → Alike former new former-words new-words
    stopped : (place : ℕ) → starts_comment text place ≡ true
        → (former ≡ Err (Refusal.NotNumber place)) ⊎ (former ≡ Err (Refusal.ClauseCount place))
        → Alike former new former-words new-words

  more : (w : Piece) {former new : Result ℕ Refusal} {former-words new-words : List Piece} → Alike former new former-words new-words → Alike former new (w ∷ former-words) (w ∷ new-words)
  more w (same e words) = same e (λ total d. ap (λ (ws : List Piece). w ∷ ws) (words total d))
  more w (stopped place c e) = stopped place c e

  refused : (r : Refusal) (former-words new-words : List Piece) → Alike (Err r) (Err r) former-words new-words
  refused r former-words new-words = same refl (λ total d. never (cc))

  module _ (n m : ℕ) where
    abbrev Scans : ℕ → ℕ → List Piece → List Piece → Type 0
    Scans closed count former new =
        Alike (scan_from (length text) n m closed count former) (scan_from (length text) n m closed count new) former new

    -- the same word before both
    word-alike : (w : Piece) (former new : List Piece) → ((closed count : ℕ) → Scans closed count former new) → (closed count : ℕ)
        → Scans closed count (w ∷ former) (w ∷ new)
    unfolding scan_from
    word-alike w former new rest closed count =
        by (eqb closed m) (not (is_numeral (numeral_of w.bytes))) (eqb (code_in w) 0) (ltb n (variable_of (code_in w))) (eqb count max_literals)
        (more w (rest (closed + 1) count)) (more w (rest closed (count + 1)))
      where
        by : (a b z l k : Bool) {s t u v : Result ℕ Refusal} → Alike s t (w ∷ former) (w ∷ new) → Alike u v (w ∷ former) (w ∷ new)
            → Alike
            (cond a (Err (Refusal.ClauseCount w.place))
            (cond b (Err (Refusal.NotNumber w.place))
            (cond z s
            (cond l (Err (Refusal.LiteralBeyond w.place))
            (cond k (Err (Refusal.TooManyLiterals w.place)) u)))))
            (cond a (Err (Refusal.ClauseCount w.place))
            (cond b (Err (Refusal.NotNumber w.place))
            (cond z t
            (cond l (Err (Refusal.LiteralBeyond w.place))
            (cond k (Err (Refusal.TooManyLiterals w.place)) v)))))
            (w ∷ former) (w ∷ new)
        by true b z l k closes reads = refused _ _ _
        by false true z l k closes reads = refused _ _ _
        by false false true l k closes reads = closes
        by false false false true k closes reads = refused _ _ _
        by false false false false true closes reads = refused _ _ _
        by false false false false false closes reads = reads

    -- a comment, whose first word is no number
    comment-stops : (at : ℕ) → at + 1 < length text → get_or text at 0 ≡ 10 → get_or text (at + 1) 0 ≡ 99 → (former new : List Piece)
        → former ≡ piece_at text (at + 1) ∷ words_at text (run_end is_word_byte text (at + 1)) → (closed count : ℕ) → Scans closed count former new
    comment-stops at h feed letter former new e closed count =
        stopped (at + 1) (starts text at feed letter)
        (⊎_elim
        (λ full. inr (scan-extra (length text) n m closed count former _ _ e full))
        (λ more. inl (scan-word (length text) n m closed count former _ _ e more (letter-word text (at + 1) h letter)))
        (eq-or-ne closed m))

    -- the words from a place on, and those of them that stand in no comment
    abbrev From : ℕ → Type 0
    From at = (closed count : ℕ) → Scans closed count (words_at text at) (words_past text at)

    both_end : (at : ℕ) → length text ≤ at → From at
    both_end at h =
        let none = no_word text at at (sym (run_end_lem is_blank text at h)) h in
        λ closed count. rw (none, past_end text at h) (same refl (λ total d. refl))

    from : (at : ℕ) → From at
    from = forward (length text) From both_end (λ at later. by at later (step text at))
      where
        by : (at : ℕ) → ((next : ℕ) → at < next → From next) → Step text at → From at
        by at later (Step.ends e) = both_end at e
        by at later (Step.word within ink) =
            let here = next_word text at at (sym (run-stop is_blank text at within ink)) within in
            let ahead = run-forward is_word_byte text at within (opposite-true (is_blank (get_or text at 0)) ink) in
            rw (here, past_word text at within ink) (word-alike (piece_at text at) _ _ (later (run_end is_word_byte text at) ahead))
        by at later (Step.blank within b e) = rw (words-blank text at within b, e) (later (at + 1) (omega arith))
        by at later (Step.comment within feed letter e) =
            λ closed count.
            comment-stops at within feed letter _ _
            (words-blank text at (omega arith) (feed-blank (get_or text at 0) feed)
            ∙ next_word text (at + 1) (at + 1) (sym (run-stop is_blank text (at + 1) within (letter-ink (get_or text (at + 1) 0) letter))) within)
            closed count

    alike : (at : ℕ) → Scans 0 0 (words_at text at) (words_past text at)
    alike at = from at 0 0

-- ---- the theorems

-- whatever is lent: the former answer is the new one, or it was 3 or 6 where a comment starts
pub data FormerAnswer (text : List ℕ) (literals ends keys : ℕ) : Type 0 where
  same_answer : formerly_opened_by text literals ends keys ≡ opened_by text literals ends keys → FormerAnswer text literals ends keys
  met-comment : (place : ℕ) → starts_comment text place ≡ true
      → (formerly_opened_by text literals ends keys ≡ Err (Refusal.NotNumber place)) ⊎ (formerly_opened_by text literals ends keys ≡ Err (Refusal.ClauseCount place))
      → FormerAnswer text literals ends keys

-- "Texts that opened before open to the same store": what `open` answers and what it leaves in the slices, by its contract, is what the former rule gives
pub record SameStore (text literals ends keys : List ℕ) (former : Result Sizes Refusal) : Type 0 where
  pub answer : opened_by text (length literals) (length ends) (length keys) ≡ former
  pub literals-left : written (opened_by text (length literals) (length ends) (length keys)) (literals_in (body_of text)) literals ≡ written former (literals_in (former_body_of text)) literals
  pub ends-left : written (opened_by text (length literals) (length ends) (length keys)) (ends_from 0 (body_of text)) ends ≡ written former (ends_from 0 (former_body_of text)) ends

module _ (text : List ℕ) where
  -- what the scan says of these words after a problem line
  abbrev scanned : Problem → List Piece → Result ℕ Refusal
  scanned p words = scan_from (length text) p.sizes.variables p.sizes.clauses 0 0 words

  -- by what the problem line says
  module _ (p : Problem) (line : problem_of text ≡ Ok p) where
    former-body : former_body_of text ≡ words_at text p.end
    unfolding former_body_of
    former-body = rw line

    former-scan : (literals ends keys : ℕ) → formerly_opened_by text literals ends keys ≡ opened_if (scanned p (words_at text p.end)) p.sizes literals ends keys
    unfolding formerly_opened_by
    former-scan literals ends keys = rw (line, former-body)

  pub former-answer : (literals ends keys : ℕ) → FormerAnswer text literals ends keys
  unfolding formerly_opened_by opened_by
  former-answer literals ends keys = by (problem_of text) refl
    where
      by : (p : Result Problem Refusal) → problem_of text ≡ p → FormerAnswer text literals ends keys
      by (Err r) e = same_answer (rw e)
      by (Ok p) e = go (alike text p.sizes.variables p.sizes.clauses p.end)
        where
          go : Alike text (scanned p (words_at text p.end)) (scanned p (words_past text p.end)) (words_at text p.end) (words_past text p.end) → FormerAnswer text literals ends keys
          go (Alike.same q words) = same_answer (former-scan p e literals ends keys ∙ rw q (sym (opened-past text p e literals ends keys)))
          go (Alike.stopped place c q) =
              met-comment place c
              (⊎_elim
              (λ k. inl (former-scan p e literals ends keys ∙ rw k))
              (λ k. inr (former-scan p e literals ends keys ∙ rw k))
              q)

  record SameWords (literals ends keys : ℕ) (sizes : Sizes) : Type 0 where
    answer : opened_by text literals ends keys ≡ Ok sizes
    body : body_of text ≡ former_body_of text

  same-words : (literals ends keys : ℕ) (sizes : Sizes) → formerly_opened_by text literals ends keys ≡ Ok sizes → SameWords literals ends keys sizes
  unfolding formerly_opened_by
  same-words literals ends keys sizes opened = by (problem_of text) refl opened
    where
      by : (p : Result Problem Refusal) → problem_of text ≡ p → opened_after p (former_body_of text) (length text) literals ends keys ≡ Ok sizes → SameWords literals ends keys sizes
      by (Err r) e q = never (cc)
      by (Ok p) e q = go (alike text p.sizes.variables p.sizes.clauses p.end)
        where
          was : opened_if (scanned p (words_at text p.end)) p.sizes literals ends keys ≡ Ok sizes
          was = rw (former-body p e) at q

          done : SlicesFit (scanned p (words_at text p.end)) p.sizes.clauses literals ends keys
          done = (room (scanned p (words_at text p.end)) p.sizes literals ends keys sizes was).0

          go : Alike text (scanned p (words_at text p.end)) (scanned p (words_past text p.end)) (words_at text p.end) (words_past text p.end) → SameWords literals ends keys sizes
          go (Alike.same k words) =
              record {
                answer = opened-past text p e literals ends keys ∙ rw (← k) was;
                body = body-past text p e ∙ sym (words done.count done.done) ∙ sym (former-body p e);
              }
          go (Alike.stopped place c k) = ⊎_elim (λ r. never (cc (r, done.done))) (λ r. never (cc (r, done.done))) k

pub same_store : (text literals ends keys : List ℕ) (sizes : Sizes) → formerly_opened_by text (length literals) (length ends) (length keys) ≡ Ok sizes
    → SameStore text literals ends keys (formerly_opened_by text (length literals) (length ends) (length keys))
same_store text literals ends keys sizes opened =
    let s = same-words text (length literals) (length ends) (length keys) sizes opened in
    let answer = s.answer ∙ sym opened in
    record { answer = answer; literals-left = rw (answer, s.body); ends-left = rw (answer, s.body) }
