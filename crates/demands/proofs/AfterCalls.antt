-- Lists of calls: after any list from a fresh opening, refused calls included, the rows are exactly the permutations that the accepted offers not taken back
-- state, in order, repeats included, each a symmetry that moves something, and the plain formula is the text's. What carries it: `Sound`, which every call keeps. Assumes nothing.
use Rattle.std.proofs.Common.{Result, Ok, Err}
use Rattle.store.specs.Refusals.{said as told}
use Rattle.store.specs.declared.refusal.Refusal.{Refusal}
use mathlib.Core.Path.{◌≡◌, refl, ap, ◌∙◌, subst, subst₂}
use mathlib.Core.Bool.{true}
use mathlib.Core.List.Memᴰ
use mathlib.Core.List.{List, [], ◌∷◌, ◌++◌, Memᴰ}
use mathlib.Core.Logic.{⊎_elim}
use Prim.Native.Nat.{ℕ, ◌*◌}
use native.Mathlib.Omega.{arith}
use lib.ListN.{length, take, length-append}
use lib.Seq.{length-take-le}
use Rattle.store.specs.Refusals.{Said, done, refused}
use Rattle.store.specs.Stores.{with_rows, without_row, plain_of, rows_of, held_rows}
use Rattle.store.specs.Identity.{MovesSomething}
use Rattle.keys.proofs.RightLaws.{written-right}
use Rattle.standing.specs.Keyed.{Keyed, with_keys, well_formed}
use Rattle.standing.proofs.StandingLaws.{well-formed, its-form, same-clauses}
use Rattle.store.proofs.RowLaws.{rows_append, rows_take}
use Rattle.store.proofs.Demands.{rest_of, rows-of}
use Rattle.store.proofs.RowChanges.{with-rows-formed, without-row-formed}
use Rattle.permutation.specs.Stated.{stated_by, row_stated}
use Rattle.symmetry.specs.Symmetry.{IsSymmetry}
use Rattle.opening.specs.Opening.{formula_of}
use Rattle.opening.specs.declared.Sizes.{Sizes}
use Rattle.opening.proofs.Theorem.{opened-formed, opened-plain}
use Rattle.offering.specs.Offering.{row_for}
use Rattle.calls.specs.Calls.{accepted as yes, Dimensions, opened_in, open_says, open_store, offer_says, offer_store, taken_back, withdraw_says, withdraw_store}
use Rattle.demands.specs.Lists.{Call, offer, withdraw, lend, lent_anew, after_call, after, but_last, held_after, held_from, accepted, offers_left}
use Rattle.demands.proofs.ButLast.{but-last-more}
use Rattle.demands.proofs.Acceptance.{accepted-iff, store-refused, store-accepted, accepted-held, accepted-formed}
use Rattle.demands.proofs.Withdrawal.{withdrawn-refused, withdrawn-row, withdrawn-held}

-- ---- what every call keeps: all of the store but its rows

pub record Keeps (s t : Keyed) : Type 0 where
  pub but-rows : t ≡ with_keys (with_rows s.store t.store.counts.rows t.store.images) s.keys

module _ {s t : Keyed} (k : Keeps s t) where
  pub same-plain : plain_of t.store ≡ plain_of s.store
  unfolding plain_of
  same-plain = ap (λ (u : Keyed). plain_of u.store) k.but-rows

  pub same-variables : t.store.counts.variables ≡ s.store.counts.variables
  same-variables = ap (λ (u : Keyed). u.store.counts.variables) k.but-rows

  pub same-open : t.store.counts.is_open ≡ s.store.counts.is_open
  same-open = ap (λ (u : Keyed). u.store.counts.is_open) k.but-rows

  pub keeps-trans : {r : Keyed} → Keeps r s → Keeps r t
  keeps-trans l = record { but-rows = k.but-rows ∙ ap (λ (u : Keyed). with_keys (with_rows u.store t.store.counts.rows t.store.images) u.keys) l.but-rows }

pub keeps_self : (s : Keyed) → Keeps s s
keeps_self s = record { but-rows = refl }

pub accepted-keeps : (s : Keyed) (names values : List ℕ) → offer_says s names values ≡ done yes → Keeps s (offer_store s names values)
accepted-keeps s names values e = rw (store-accepted s names values e) (record { but-rows = refl })

-- ---- the offers held and the rows held

-- what an offer's acceptance asks of the lines and the formula
pub record Acceptable (s : Keyed) (names values : List ℕ) : Type 0 where
  pub stated : stated_by s.store.counts.variables names values ≡ Ok tt
  pub symmetry : IsSymmetry (row_for s.store names values) (plain_of s.store)
  pub moves : MovesSomething (row_for s.store names values)

pub acceptable-alike : (s t : Keyed) (names values : List ℕ) → s.store.counts.variables ≡ t.store.counts.variables → plain_of s.store ≡ plain_of t.store
    → Acceptable s names values → Acceptable t names values
acceptable-alike s t names values e f a = record {
  stated = rw e at a.stated;
  symmetry = subst₂ (λ (n : ℕ) (formula : List (List ℕ)). IsSymmetry (row_stated n names values) formula) e f a.symmetry;
  moves = subst (λ (n : ℕ). MovesSomething (row_stated n names values)) e a.moves;
}

-- of a store just opened: each offer held is acceptable, and these state the rows held
pub data Held (o : Keyed) : List (List ℕ) → List Call → Type 0 where
  none : Held o [] []
  newest : (rows : List (List ℕ)) (offers : List Call) → Held o rows offers → (names values : List ℕ) → Acceptable o names values
      → (more : List (List ℕ)) → more ≡ rows ++ (row_for o.store names values ∷ []) → (longer : List Call) → longer ≡ offers ++ (offer names values ∷ []) → Held o more longer

held-but-last : (o : Keyed) (rows : List (List ℕ)) (offers : List Call) → Held o rows offers → Held o (but_last rows) (but_last offers)
held-but-last o _ _ none = none
held-but-last o _ _ (newest rows offers h names values a more e longer f) =
    rw (e, f, but-last-more rows (row_for o.store names values), but-last-more offers (offer names values)) h

held-rows : (o : Keyed) (rows : List (List ℕ)) (offers : List Call) → Held o rows offers → (row : List ℕ) → Memᴰ row rows
    → IsSymmetry row (plain_of o.store) × MovesSomething row
held-rows o _ _ none row m = absurd (Memᴰ.not-nil m)
held-rows o _ _ (newest rows offers h names values a more e longer f) row m =
    ⊎_elim
    (λ (q : Memᴰ row rows). held-rows o rows offers h row q)
    (λ (q : Memᴰ row (row_for o.store names values ∷ [])). rw (Memᴰ.eq_of_singleton q) (a.symmetry, a.moves))
    (Memᴰ.append_cases rows (rw e at m))

-- ---- another images slice

module _ (s : Keyed) (past : List ℕ) (e : well_formed s ≡ true) where
  abbrev entries : ℕ
  entries = s.store.counts.rows * s.store.counts.variables

  in_use : length (take entries s.store.images) ≡ entries
  in_use = length-take-le entries s.store.images (rest_of s.store (its-form s e)).images-long

  anew-held : held_rows (lent_anew s past).store ≡ held_rows s.store
  unfolding held_rows lent_anew
  anew-held =
      rows_append s.store.counts.variables s.store.counts.rows (take entries s.store.images) past in_use
      ∙ rows_take s.store.counts.variables s.store.counts.rows s.store.images (rest_of s.store (its-form s e)).images-long

  anew-formed : well_formed (lent_anew s past) ≡ true
  unfolding lent_anew held_rows plain_of
  anew-formed =
      let f = its-form s e in
      let r = rest_of s.store f in
      same-clauses s (lent_anew s past).store refl e
      (with-rows-formed s.store s.store.counts.rows (take entries s.store.images ++ past) f r.rows_fit (omega (arith, length-append (take entries s.store.images) past, in_use))
      (rw anew-held (rows-of s.store f)))

-- ---- a store and what is held

-- a store s after some calls from o, and the rows and the offers held: s is o but for its rows, it is well formed, and its rows are those that the offers state
pub record Sound (o s : Keyed) (rows : List (List ℕ)) (offers : List Call) : Type 0 where
  pub keeps : Keeps o s
  pub formed : well_formed s ≡ true
  pub are-rows : held_rows s.store ≡ rows
  pub held : Held o rows offers

-- what a call counts as among the rows held, and among the offers
abbrev as_row : Keyed → List ℕ → List ℕ → List ℕ
as_row s names values = row_for s.store names values

abbrev as_offer : Keyed → List ℕ → List ℕ → Call
as_offer s = offer

-- a call answers or is refused
pub data Ending {Values : Type 0} (said : Said Values) : Type 0 where
  answered : (v : Values) → said ≡ done v → Ending said
  turned : (number place : ℕ) → said ≡ refused number place → Ending said

pub ending : {Values : Type 0} (said : Said Values) → Ending said
ending (done v) = answered v refl
ending (refused number place) = turned number place refl

pub sound-call : (o s : Keyed) (rows : List (List ℕ)) (offers : List Call) (call : Call) → Sound o s rows offers
    → Sound o (after_call s call) (held_after as_row rows s call) (held_after as_offer offers s call)
unfolding lent_anew plain_of
sound-call o s rows offers (lend past) sound = record {
  keeps = keeps-trans (record { but-rows = refl }) sound.keeps;
  formed = anew-formed s past sound.formed;
  are-rows = anew-held s past sound.formed ∙ sound.are-rows;
  held = sound.held;
}
sound-call o s rows offers withdraw sound = by (ending (withdraw_says s))
  where
    by : Ending (withdraw_says s) → Sound o (withdraw_store s) (held_after as_row rows s withdraw) (held_after as_offer offers s withdraw)
    by (turned number place e) = rw (withdrawn-refused s number place e, e) sound
    by (answered taken_back e) =
        let gone = withdrawn-row s e in
        rw e
        (record {
          keeps = keeps-trans (rw gone (record { but-rows = refl })) sound.keeps;
          formed = ap well_formed gone ∙ same-clauses s (without_row s.store) refl sound.formed (without-row-formed s.store (its-form s sound.formed));
          are-rows = withdrawn-held s e ∙ ap but_last sound.are-rows;
          held = held-but-last o rows offers sound.held;
        })
sound-call o s rows offers (offer names values) sound = by (ending (offer_says s names values))
  where
    by : Ending (offer_says s names values)
        → Sound o (offer_store s names values) (held_after as_row rows s (offer names values)) (held_after as_offer offers s (offer names values))
    by (turned number place e) = rw (store-refused s names values number place e, e) sound
    by (answered yes e) =
        let k = sound.keeps in
        let all = (accepted-iff s names values).0 e in
        let here : Acceptable s names values = record { stated = all.0.states.stated; symmetry = all.1; moves = all.2 } in
        rw e
        (record {
          keeps = keeps-trans (accepted-keeps s names values e) k;
          formed = accepted-formed s names values e;
          are-rows = accepted-held s names values e ∙ ap (λ (l : List (List ℕ)). l ++ (row_for s.store names values ∷ [])) sound.are-rows;
          held = newest rows offers sound.held names values (acceptable-alike s o names values (same-variables k) (same-plain k) here)
              (rows ++ (row_for s.store names values ∷ [])) (ap (λ (n : ℕ). rows ++ (row_stated n names values ∷ [])) (same-variables k)) (offers ++ (offer names values ∷ [])) refl;
        })

sound-calls : (o s : Keyed) (rows : List (List ℕ)) (offers : List Call) (calls : List Call) → Sound o s rows offers
    → Sound o (after s calls) (held_from as_row rows s calls) (held_from as_offer offers s calls)
unfolding after held_from
sound-calls o s rows offers [] sound = sound
sound-calls o s rows offers (call ∷ calls) sound =
    sound-calls o (after_call s call) (held_after as_row rows s call) (held_after as_offer offers s call) calls (sound-call o s rows offers call sound)

-- ---- from a fresh opening

-- what an opening that answers leaves: a well-formed open store of the text's formula, without rows
pub record Fresh (s : Keyed) (text : List ℕ) : Type 0 where
  pub sound : Sound (open_store s text) (open_store s text) [] []
  pub opened : (open_store s text).store.counts.is_open ≡ true
  pub plain : plain_of (open_store s text).store ≡ formula_of text

pub fresh : (s : Keyed) (text : List ℕ) (sizes : Dimensions) → open_says s text ≡ done sizes → Fresh s text
unfolding open_says open_store held_rows rows_of
fresh s text sizes said = by (opened_in s text) refl said
  where
    by : (a : Result Sizes Refusal) → opened_in s text ≡ a → told a ≡ done sizes → Fresh s text
    by (Ok o) e q = record {
      sound = record {
        keeps = keeps_self (open_store s text);
        formed = rw e (well-formed _ (opened-formed text s.store.literals s.store.ends s.keys s.store.images o e) (rw (opened-plain text s.store.literals s.store.ends s.keys s.store.images o e) (written-right (formula_of text) _)));
        are-rows = rw e;
        held = none;
      };
      opened = rw e;
      plain = rw e (opened-plain text s.store.literals s.store.ends s.keys s.store.images o e);
    }
    by (Err r) e q = let z : ◌≡◌ {A = ℕ} 0 1 = cc in absurd (omega arith)

-- For every text and lent store for which opening answers, and every list of calls from there, refused ones included: the store is open and well formed,
-- its plain formula is the text's, its rows are exactly the accepted permutations of the list, and each of these is a symmetry of the formula and moves something.
pub record AfterOpening (s : Keyed) (text : List ℕ) (calls : List Call) : Type 0 where
  pub sound : Sound (open_store s text) (after (open_store s text) calls) (accepted (open_store s text) calls) (offers_left (open_store s text) calls)
  pub opened : (after (open_store s text) calls).store.counts.is_open ≡ true
  pub plain : plain_of (after (open_store s text) calls).store ≡ formula_of text
  pub symmetries : (row : List ℕ) → Memᴰ row (accepted (open_store s text) calls) → IsSymmetry row (formula_of text)
  pub moving : (row : List ℕ) → Memᴰ row (accepted (open_store s text) calls) → MovesSomething row

pub after-opening : (s : Keyed) (text : List ℕ) (sizes : Dimensions) (calls : List Call) → open_says s text ≡ done sizes → AfterOpening s text calls
after-opening s text sizes calls said =
    let f = fresh s text sizes said in
    let sound = sound-calls (open_store s text) (open_store s text) [] [] calls f.sound in
    record {
      sound = sound;
      opened = same-open sound.keeps ∙ f.opened;
      plain = same-plain sound.keeps ∙ f.plain;
      symmetries = λ row m. rw f.plain at (held-rows (open_store s text) _ _ sound.held row m).0;
      moving = λ row m. (held-rows (open_store s text) _ _ sound.held row m).1;
    }
