-- The output in pages: one law for a page that is a line, one for a page of clauses, one where nothing is left; and what the first stage has left is the
-- whole output. Assumes nothing.
use Rattle.std.proofs.Common.{Result, Ok, Err}
use mathlib.Core.Path.{◌≡◌, refl, sym, ap, subst, ◌∙◌}
use mathlib.Core.Bool.{true}
use mathlib.Core.List.{List, [], ◌++◌, append-nil}
use Prim.Native.Nat.{ℕ, ◌+◌, ◌≤◌, ◌<◌}
use native.Mathlib.Omega.{arith}
use lib.ListN.{length, take, drop, length-append}
use lib.Seq.{take-append_seam, drop-append_seam, length-take-le}
use Rattle.store.specs.Refusals.{number_of, place_of, said as told}
use Rattle.store.specs.Stores.{Store, is_formed}
use Rattle.store.specs.declared.refusal.Refusal.{Refusal}
use Rattle.standing.specs.Keyed.{Keyed}
use Rattle.render.specs.Text.{refusal_line, header_line, written_at}
use Rattle.render.proofs.Writing.{length-written}
use Rattle.render.proofs.LineLaws.{length-header, length-refusal}
use Rattle.render.proofs.DigitLaws.{digits-most}
use Rattle.lexleader.specs.Store.{made_of, variables_of, clauses_of}
use Rattle.emit.specs.Emit.{header_of, lines_of, text_of, max_line}
use Rattle.emit.proofs.WrittenLaws.{at-start}
use Rattle.cursor.specs.Cursors.{remaining_of, CursorStands}
use Rattle.cursor.specs.declared.Cursor.{Cursor}
use Rattle.pages.specs.Pages.{FilledPage, fill_from}
use Rattle.pages.proofs.PageLaws.{PageHolds, page-holds}
use Rattle.session.specs.Session.{Ended, ended, session_of}
use Rattle.program.specs.Program.{printed_by, output_of, left_to_print, StageStands, PageStep}
use Rattle.program.specs.declared.Stage.{Stage}

pub at_stage : {s : Store} {a b next : Stage} {out after : List ℕ} {bytes : ℕ} → a ≡ b → PageStep s b out next bytes after → PageStep s a out next bytes after
at_stage e g = rw e g

-- ---- a page that is one line

module _ (s : Store) (stage next : Stage) (line out : List ℕ) (is : left_to_print stage s ≡ line ++ left_to_print next s) (some : 0 < length line) (room : length line ≤ length out) where
  pub line_step : StageStands next s → (bytes : ℕ) (after : List ℕ) → bytes ≡ 0 + length line → after ≡ written_at 0 line out → PageStep s stage out next bytes after
  line_step stands bytes after b a =
      let size : bytes ≡ length line = omega arith in
      let there : after ≡ line ++ drop (length line) out = a ∙ at-start line out in
      record {
        prints = rw (size, there, take-append_seam line (drop (length line) out)) is;
        stays = rw (size, there) (drop-append_seam line (drop (length line) out));
        within = omega arith;
        size = ap length a ∙ length-written 0 line out (omega arith);
        last = λ none. absurd (omega arith);
        stands = stands;
      }

pub refusal-room : (number place room : ℕ) → max_line ≤ room → 0 + length (refusal_line number place) ≤ room
refusal-room number place room h = omega (arith, length-refusal number place, digits-most number, digits-most place)

pub refused-step : (s : Store) (refusal : Refusal) (out : List ℕ) → max_line ≤ length out → (number place bytes : ℕ) (after : List ℕ) → number ≡ number_of refusal
    → place ≡ place_of refusal → bytes ≡ 0 + length (refusal_line number place) → after ≡ written_at 0 (refusal_line number place) out
    → PageStep s (Stage.Refused refusal) out Stage.Over bytes after
unfolding left_to_print
refused-step s refusal out room number place bytes after n p b a =
    let l = length-refusal number place in
    line_step s (Stage.Refused refusal) Stage.Over (refusal_line number place) out (rw (n, p) (sym (append-nil (refusal_line (number_of refusal) (place_of refusal)))))
    (omega arith) (omega (arith, refusal-room number place (length out) room)) tt bytes after b a

pub header-step : (s : Store) → is_formed s ≡ true → (out : List ℕ) → max_line ≤ length out → (variables clauses bytes : ℕ) (after : List ℕ)
    → variables ≡ variables_of s → clauses ≡ clauses_of s → bytes ≡ 0 + length (header_line variables clauses) → after ≡ written_at 0 (header_line variables clauses) out
    → (c : Cursor) → CursorStands s.counts s.images c → remaining_of s c ≡ made_of s → PageStep s Stage.Header out (Stage.Clauses c) bytes after
unfolding left_to_print text_of header_of
header-step s formed out room variables clauses bytes after v m b a c points all =
    let l = length-header variables clauses in
    line_step s Stage.Header (Stage.Clauses c) (header_line variables clauses) out (rw (v, m, all))
    (omega arith) (omega (arith, digits-most variables, digits-most clauses)) (formed, points) bytes after b a

-- ---- a page of clauses

pub clauses-step : (s : Store) → is_formed s ≡ true → (c d : Cursor) (out after : List ℕ) (bytes : ℕ)
    → ◌≡◌ {A = FilledPage} (record { buffer = after; end = bytes; rest = remaining_of s d }) (fill_from 0 (remaining_of s c) out)
    → CursorStands s.counts s.images d → (bytes ≡ 0 → remaining_of s c ≡ []) → PageStep s (Stage.Clauses c) out (Stage.Clauses d) bytes after
unfolding left_to_print lines_of
clauses-step s formed c d out after bytes e points last =
    let h = subst (PageHolds 0 (remaining_of s c) out) (sym e) (page-holds 0 (remaining_of s c) out (omega arith)) in
    record {
      prints = h.text;
      stays = h.past;
      within = h.within;
      size = h.size;
      last = λ none. ap lines_of (last none);
      stands = (formed, points);
    }

-- ---- nothing left

pub over-step : (s : Store) (out : List ℕ) → PageStep s Stage.Over out Stage.Over 0 out
unfolding left_to_print
over-step s out = record { prints = refl; stays = refl; within = omega arith; size = refl; last = λ _. refl; stands = tt }

-- ---- a page with bytes leaves less

pub step_less : {s : Store} {stage next : Stage} {out after : List ℕ} {bytes : ℕ} → PageStep s stage out next bytes after → (bytes ≡ 0 → ⊥)
    → length (left_to_print next s) < length (left_to_print stage s)
step_less {s} {stage} {next} {out} {after} {bytes} g some =
    omega (arith, ap length g.prints, length-append (take bytes after) (left_to_print next s), length-take-le bytes after (omega (arith, g.within, g.size)), some)

-- ---- the first stage

module _ (s t : Keyed) (input : List ℕ) (answer : Result (Unit {0}) Refusal) (is : ended (told answer) t ≡ session_of s input) where
  printed : printed_by (told answer) t.store ≡ output_of s input
  unfolding output_of
  printed = ap (λ (e : Ended). printed_by e.said e.store.store) is

  pub begins-ready : answer ≡ Ok tt → left_to_print Stage.Header t.store ≡ output_of s input
  unfolding left_to_print
  begins-ready e = sym (ap (λ (a : Result (Unit {0}) Refusal). printed_by (told a) t.store) e) ∙ printed

  pub begins-refused : (refusal : Refusal) → answer ≡ Err refusal → left_to_print (Stage.Refused refusal) t.store ≡ output_of s input
  unfolding left_to_print
  begins-refused refusal e = sym (ap (λ (a : Result (Unit {0}) Refusal). printed_by (told a) t.store) e) ∙ printed
