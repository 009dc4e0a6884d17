-- A session that ends ready is a list of offers from a fresh opening, so what holds after every such list holds of its store. Assumes nothing.
use mathlib.Core.Path.{◌≡◌, refl, sym, ap, ◌∙◌}
use mathlib.Core.Bool.{true}
use mathlib.Core.List.{List, [], ◌∷◌, map}
use mathlib.Core.Logic.{⊎_elim}
use Prim.Native.Nat.{ℕ}
use native.Mathlib.Omega.{arith}
use lib.ListN.{length, take}
use Rattle.lists.proofs.Cases.{lt-or-le}
use Rattle.dimacs.specs.Words.{Piece}
use Rattle.dimacs.specs.Lines.{lines_at}
use Rattle.store.specs.Refusals.{Said, done, refused}
use Rattle.standing.specs.Keyed.{Keyed, well_formed}
use Rattle.calls.specs.Calls.{Accepted, accepted, Dimensions, open_says, open_store, offer_says, offer_store}
use Rattle.demands.specs.Lists.{Call, offer, after}
use Rattle.demands.proofs.AfterCalls.{after-opening}
use Rattle.session.specs.Input.{max_input, from_divider}
use Rattle.session.specs.Session.{Ended, ended, offer_all, offer_lines, if_opened, divided, session_of}
use Rattle.session.proofs.SessionLaws.{offer-refused, offer-accepted, too_long, within}

-- the offers of value lines, all with the same names
abbrev pub calls : List ℕ → List Piece → List Call
calls names lines = map (λ (line : Piece). offer names line.bytes) lines

-- A text that opens, and the offers that lead from there to the session's store. Where there is no names line, there are no value lines.
pub record Listed (s : Keyed) (input : List ℕ) : Type 0 where
  pub text : List ℕ
  pub names : List ℕ
  pub lines : List Piece
  pub sizes : Dimensions
  pub opened : open_says s text ≡ done sizes
  pub store : (session_of s input).store ≡ after (open_store s text) (calls names lines)

-- what a call that needs a store asks of it
pub record Formed (s : Keyed) : Type 0 where
  pub formed : well_formed s ≡ true
  pub opened : s.store.counts.is_open ≡ true

-- ---- the value lines

pub store_of : {a b : Ended} → a ≡ b → a.store ≡ b.store
store_of e = ap (λ (end : Ended). end.store) e

pub said_of : {a b : Ended} → a ≡ b → a.said ≡ b.said
said_of e = ap (λ (end : Ended). end.said) e

-- what ends with a refusal does not end ready
not-ready : {C : Type 0} {end : Ended} {s : Keyed} (number place : ℕ) → end ≡ ended (refused number place) s → end.said ≡ done accepted → C
not-ready number place e ready =
    let both : refused number place ≡ done accepted = sym (said_of e) ∙ ready in
    let z : ◌≡◌ {A = ℕ} 0 1 = cc in
    absurd (omega arith)

-- offers that are all accepted leave what the list of calls leaves
offers-all : (s : Keyed) (names : List ℕ) (lines : List Piece) → (offer_all s names lines).said ≡ done accepted
    → (offer_all s names lines).store ≡ after s (calls names lines)
unfolding offer_all after
offers-all s names [] ready = refl
offers-all s names (values ∷ lines) ready = by (offer_says s names values.bytes) refl (offers-all next names lines)
  where
    next : Keyed
    next = offer_store s names values.bytes

    by : (said : Said Accepted) → offer_says s names values.bytes ≡ said
        → ((offer_all next names lines).said ≡ done accepted → (offer_all next names lines).store ≡ after next (calls names lines))
        → (offer_all s names (values ∷ lines)).store ≡ after next (calls names lines)
    by (refused number place) e rest = not-ready number place (offer-refused s names values lines number place e) ready
    by (done u) e rest =
        let step = offer-accepted s names values lines e in
        store_of step ∙ rest (sym (said_of step) ∙ ready)

-- ---- a session that ends ready

module _ (s : Keyed) (input : List ℕ) (ready : (session_of s input).said ≡ done accepted) where
  from-lines : (text : List ℕ) (sizes : Dimensions) → open_says s text ≡ done sizes → (lines : List Piece)
      → session_of s input ≡ offer_lines (open_store s text) lines → Listed s input
  unfolding after
  from-lines text sizes o [] e = record { text = text; names = []; lines = []; sizes = sizes; opened = o; store = store_of e }
  from-lines text sizes o (names ∷ values) e = record {
    text = text;
    names = names.bytes;
    lines = values;
    sizes = sizes;
    opened = o;
    store = store_of e ∙ offers-all (open_store s text) names.bytes values (sym (said_of e) ∙ ready);
  }

  from-text : (text : List ℕ) (lines : List Piece) (said : Said Dimensions) → open_says s text ≡ said
      → session_of s input ≡ if_opened said (open_store s text) lines → Listed s input
  from-text text lines (done sizes) o e = from-lines text sizes o lines e
  from-text text lines (refused number place) o e = not-ready number place e ready

  from-divider : (lines : List Piece) → session_of s input ≡ divided s input lines → Listed s input
  from-divider [] e = not-ready 15 0 e ready
  from-divider (divider ∷ lines) e =
      let text = take divider.place input in
      from-text text lines (open_says s text) refl e

  -- it is a list of offers from a fresh opening
  pub ready-is-list : Listed s input
  ready-is-list =
      ⊎_elim
      (λ over. not-ready 15 0 (too_long s input over) ready)
      (λ fits. from-divider (from_divider (lines_at input 0)) (within s input fits))
      (lt-or-le max_input (length input))

  -- so its store is well formed and open
  pub ready-formed : Formed (session_of s input).store
  ready-formed =
      let listed = ready-is-list in
      let left = after-opening s listed.text listed.sizes (calls listed.names listed.lines) listed.opened in
      rw listed.store (record { formed = left.sound.formed; opened = left.opened })
