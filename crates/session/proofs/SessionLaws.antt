-- A session: what is left to offer, line by line, and the `%` line that decides whether there is a session at all. One law for each way through the code.
-- Assumes nothing.
use Rattle.std.proofs.Common.{Result, Ok, Err}
use mathlib.Core.Path.{◌≡◌, sym, ap, ◌∙◌}
use mathlib.Core.List.{List, [], ◌∷◌}
use Prim.Native.Nat.{ℕ, ◌+◌, ◌-◌, ◌≤◌, ◌<◌}
use borrow.Author.Tests.{lt-ltb, le-ltb}
use lib.ListN.{length, take, drop}
use Rattle.dimacs.specs.Words.{run, run_end, Piece}
use Rattle.dimacs.specs.Lines.{is_line_byte, lines_at}
use Rattle.dimacs.proofs.Runs.{run-part}
use Rattle.dimacs.proofs.LineLaws.{no_line, line-here}
use Rattle.store.specs.Refusals.{done, refused, said_refused, said as told}
use Rattle.store.specs.Stores.{lent, closed_record}
use Rattle.standing.specs.Keyed.{Keyed, with_keys}
use Rattle.store.specs.declared.record.Record.{Record}
use Rattle.store.specs.declared.refusal.Refusal.{Refusal}
use Rattle.opening.specs.declared.Sizes.{Sizes}
use Rattle.calls.specs.Calls.{accepted, open_says, open_store, offer_says, offer_store}
use Rattle.session.specs.Input.{max_input, from_divider}
use Rattle.session.specs.Session.{ended, offer_all, offer_lines, divided, session_of}

-- the bytes of a line are the part from its start to its end
line-bytes : (input : List ℕ) (at end : ℕ) → end ≡ run_end is_line_byte input at → take (end - at) (drop at input) ≡ run is_line_byte (drop at input)
line-bytes input at end e = rw e (run-part is_line_byte input at)

-- ---- the names line

module _ (s : Keyed) (input : List ℕ) (at : ℕ) where
  pub no_names : length input ≤ at → offer_lines s (lines_at input at) ≡ ended (done accepted) s
  no_names h = rw (no_line input at h)

  pub names-line : at < length input → (end : ℕ) → end ≡ run_end is_line_byte input at
      → offer_lines s (lines_at input at) ≡ offer_all s (take (end - at) (drop at input)) (lines_at input (end + 1))
  names-line h end e = rw (line-bytes input at end e, e, line-here input at h)

-- ---- the value lines

module _ (s : Keyed) (names : List ℕ) (values : Piece) (lines : List Piece) where
  pub offer-refused : (number place : ℕ) → offer_says s names values.bytes ≡ refused number place
      → offer_all s names (values ∷ lines) ≡ ended (refused number place) (offer_store s names values.bytes)
  unfolding offer_all
  offer-refused number place e = rw (e, offer_all)

  pub offer-accepted : offer_says s names values.bytes ≡ done accepted
      → offer_all s names (values ∷ lines) ≡ offer_all (offer_store s names values.bytes) names lines
  unfolding offer_all
  offer-accepted e = rw (e, offer_all)

module _ (s : Keyed) (names input : List ℕ) (from : ℕ) where
  pub no-values : length input ≤ from → offer_all s names (lines_at input from) ≡ ended (done accepted) s
  unfolding offer_all
  no-values h = rw (no_line input from h)

  -- the offer of the line at `from`: what it answers, and the store that it leaves
  module _ (h : from < length input) (to : ℕ) (end : to ≡ run_end is_line_byte input from) (a : Result (Unit {0}) Refusal) (t : Keyed)
      (says : told a ≡ offer_says s names (take (to - from) (drop from input)))
      (leaves : t ≡ offer_store s names (take (to - from) (drop from input))) where
    pub refused-line : (refusal : Refusal) → a ≡ Err refusal → offer_all s names (lines_at input from) ≡ ended (said_refused refusal) t
    refused-line refusal q =
        rw (line-here input from h, ← end, ← line-bytes input from to end, leaves)
        (offer-refused s names _ _ _ _ (sym says ∙ ap told q))

    pub accepted-line : a ≡ Ok tt → offer_all s names (lines_at input from) ≡ offer_all t names (lines_at input (to + 1))
    accepted-line q =
        rw (line-here input from h, ← end, ← line-bytes input from to end, leaves)
        (offer-accepted s names _ _ (sym says ∙ ap told q))

-- ---- the opening

-- a closed store is opened with the text before the `%` line at `at`: what the call answers and leaves. It is lent no images, so they stay
module _ (literals ends keys images input : List ℕ) (at : ℕ) (h : at < length input) (old : Record) (new : old ≡ closed_record)
    (a : Result Sizes Refusal) (counts : Record) (literals₁ ends₁ keys₁ : List ℕ)
    (says : told a ≡ open_says (with_keys (lent old literals ends []) keys) (take at input))
    (leaves : with_keys (lent counts literals₁ ends₁ []) keys₁ ≡ open_store (with_keys (lent old literals ends []) keys) (take at input)) where
  -- the closed store, and what is left of it
  abbrev before : Keyed
  before = with_keys (lent closed_record literals ends images) keys

  abbrev after : Keyed
  after = with_keys (lent counts literals₁ ends₁ images) keys₁

  said : open_says before (take at input) ≡ told a
  unfolding open_says
  said = sym says

  left : open_store before (take at input) ≡ after
  unfolding open_store
  left = sym (ap (λ (t : Keyed). with_keys (lent t.store.counts t.store.literals t.store.ends images) t.keys) (rw new at leaves))

  pub refused-opening : (refusal : Refusal) → a ≡ Err refusal → divided before input (lines_at input at) ≡ ended (said_refused refusal) after
  refused-opening refusal q = rw (line-here input at h, said, left, q)

  pub opened : (sizes : Sizes) → a ≡ Ok sizes → (next : ℕ) → next ≡ run_end is_line_byte input at + 1
      → divided before input (lines_at input at) ≡ offer_lines after (lines_at input next)
  opened sizes q next e = rw (e, line-here input at h, said, left, q)

-- ---- the input

module _ (s : Keyed) (input : List ℕ) where
  pub too_long : max_input < length input → session_of s input ≡ ended (refused 15 0) s
  unfolding session_of
  too_long h = rw (lt-ltb max_input (length input) h)

  pub within : length input ≤ max_input → session_of s input ≡ divided s input (from_divider (lines_at input 0))
  unfolding session_of
  within h = rw (le-ltb max_input (length input) h)

  module _ (fits : length input ≤ max_input) where
    pub split_at : (at : ℕ) → lines_at input at ≡ from_divider (lines_at input 0) → session_of s input ≡ divided s input (lines_at input at)
    split_at at found = rw found (within fits)

    pub not-split : from_divider (lines_at input 0) ≡ [] → session_of s input ≡ ended (refused 15 0) s
    not-split none = within fits ∙ rw none
