-- After every list of calls from a fresh opening, record and rows in use are those of a store that got only the accepted offers not taken back. What carries
-- it: the offers held state the rows held, and whether two lines are accepted depends on no row, but for their count and the room. Assumes nothing.
use mathlib.Core.Path.{◌≡◌, refl, sym, ap, ap₂, ◌∙◌, subst₂}
use mathlib.Core.Bool.{true}
use mathlib.Core.List.{List, [], ◌∷◌, ◌++◌}
use Prim.Native.Nat.{ℕ, ◌+◌, ◌*◌, ◌≤◌, ◌<◌}
use native.Mathlib.Omega.{arith}
use lib.ListN.{length, take, length-append}
use Rattle.lists.specs.Tests.{all_of}
use Rattle.lists.proofs.Cases.{never, and_l, and_r}
use Rattle.store.specs.Refusals.{done}
use Rattle.store.specs.Stores.{held_rows, max_rows, with_rows}
use Rattle.standing.proofs.StandingLaws.{its-form}
use Rattle.standing.specs.Keyed.{Keyed, well_formed}
use Rattle.store.proofs.Demands.{rest_of}
use Rattle.store.proofs.RowChanges.{held-count, with-row-images}
use Rattle.permutation.specs.Stated.{row_stated}
use Rattle.permutation.proofs.RowLaws.{row-length}
use Rattle.offering.specs.Offering.{row_for}
use Rattle.calls.specs.Calls.{accepted as yes, Dimensions, open_says, open_store, offer_says, offer_store, taken_back, withdraw_says, withdraw_store}
use Rattle.demands.specs.Lists.{Call, offer, withdraw, lend, lent_anew, after_call, after}
use Rattle.demands.specs.Demand2.{Permitted}
use Rattle.demands.specs.Demand3.{permutations, left}
use Rattle.demands.specs.TakingBack.{Answers, NoneRefused, lends_none, offers, GetsOnly, TakesBack}
use Rattle.demands.proofs.Acceptance.{permitted, accepted-iff, store-refused, store-accepted, accepted-held, accepted-formed}
use Rattle.demands.proofs.Withdrawal.{withdrawn-refused, withdrawn-row}
use Rattle.demands.proofs.AfterCalls.{Keeps, same-plain, same-variables, same-open, keeps_self, keeps-trans, accepted-keeps, Acceptable, acceptable-alike}
use Rattle.demands.proofs.AfterCalls.{Held, none, newest, Ending, ending, answered, turned, Sound, sound-call, fresh, after-opening}

-- ---- one call more at the end of a list

after_more : (s : Keyed) (calls : List Call) (call : Call) → after s (calls ++ (call ∷ [])) ≡ after_call (after s calls) call
unfolding after
after_more s [] call = refl
after_more s (c ∷ calls) call = after_more (after_call s c) calls call

none-refused-more : (s : Keyed) (calls : List Call) (call : Call) → NoneRefused s calls → Answers (after s calls) call → NoneRefused s (calls ++ (call ∷ []))
unfolding after NoneRefused
none-refused-more s [] call h a = (a, tt)
none-refused-more s (c ∷ calls) call h a = (h.0, none-refused-more (after_call s c) calls call h.1 a)

-- ---- the length of the images slice

images-call : (s : Keyed) (call : Call) → lends_none call ≡ true → length (after_call s call).store.images ≡ length s.store.images
images-call s (lend past) e = never e
images-call s withdraw e = by (ending (withdraw_says s))
  where
    by : Ending (withdraw_says s) → length (withdraw_store s).store.images ≡ length s.store.images
    by (turned number place q) = rw (withdrawn-refused s number place q)
    by (answered taken_back q) = rw (withdrawn-row s q)
images-call s (offer names values) e = by (ending (offer_says s names values))
  where
    by : Ending (offer_says s names values) → length (offer_store s names values).store.images ≡ length s.store.images
    by (turned number place q) = rw (store-refused s names values number place q)
    by (answered yes q) =
        rw (store-accepted s names values q) (with-row-images s.store (row_for s.store names values) (row-length s.store.counts.variables names values) (permitted s names values q).room)

images-calls : (s : Keyed) (calls : List Call) → all_of lends_none calls ≡ true → length (after s calls).store.images ≡ length s.store.images
unfolding after all_of
images-calls s [] e = refl
images-calls s (call ∷ calls) e =
    images-calls (after_call s call) calls (and_r (lends_none call) (all_of lends_none calls) e) ∙ images-call s call (and_l (lends_none call) (all_of lends_none calls) e)

-- ---- a store that gets the offers held

record Replayed (t : Keyed) (rows : List (List ℕ)) (offers : List Call) : Type 0 where
  none-refused : NoneRefused t offers
  keeps : Keeps t (after t offers)
  formed : well_formed (after t offers) ≡ true
  are-rows : held_rows (after t offers).store ≡ rows
  images : length (after t offers).store.images ≡ length t.store.images

-- from a store like o, open, well formed and without rows
module _ (o t : Keyed) (k : Keeps o t) (opened : t.store.counts.is_open ≡ true) (formed : well_formed t ≡ true) (no_row : held_rows t.store ≡ []) where
  -- the next offer held is accepted too
  module _ (rows : List (List ℕ)) (offers : List Call) (r : Replayed t rows offers) (names values : List ℕ) (a : Acceptable o names values)
      (few : length rows < max_rows) (room : (length rows + 1) * t.store.counts.variables ≤ length t.store.images) where
    abbrev u : Keyed
    u = after t offers

    count : u.store.counts.rows ≡ length rows
    count = sym (held-count u.store) ∙ ap length r.are-rows

    next : offer_says u names values ≡ done yes
    next =
        let all = keeps-trans r.keeps k in
        let here = acceptable-alike o u names values (sym (same-variables all)) (sym (same-plain all)) a in
        let needed = ap₂ (λ (c n : ℕ). (c + 1) * n) (sym count) (sym (same-variables r.keeps)) in
        let may : Permitted u names values = record {
          states = record { opened = same-open r.keeps ∙ opened; formed = r.formed; not_full = omega (arith, count); stated = here.stated };
          room = subst₂ (λ (needed given : ℕ). needed ≤ given) needed (sym r.images) room;
        } in
        (accepted-iff u names values).1 (may, here.symmetry, here.moves)

    replayed-more : Replayed t (rows ++ (row_for o.store names values ∷ [])) (offers ++ (offer names values ∷ []))
    replayed-more =
        let last = after_more t offers (offer names values) in
        let row : row_for u.store names values ≡ row_for o.store names values = ap (λ (n : ℕ). row_stated n names values) (same-variables (keeps-trans r.keeps k)) in
        record {
          none-refused = none-refused-more t offers (offer names values) r.none-refused next;
          keeps = rw last (keeps-trans (accepted-keeps u names values next) r.keeps);
          formed = rw last (accepted-formed u names values next);
          are-rows = rw last (accepted-held u names values next ∙ ap₂ (λ (l : List (List ℕ)) (p : List ℕ). l ++ (p ∷ [])) r.are-rows row);
          images = rw last (images-call u (offer names values) refl ∙ r.images);
        }

  replay : (rows : List (List ℕ)) (offers : List Call) → Held o rows offers → length rows ≤ max_rows → length rows * t.store.counts.variables ≤ length t.store.images
      → Replayed t rows offers
  unfolding after NoneRefused
  replay _ _ none few fits = record { none-refused = tt; keeps = keeps_self t; formed = formed; are-rows = no_row; images = refl }
  replay _ _ (newest rows offers h names values a more e longer f) few fits =
      let size : length more ≡ length rows + 1 = ap length e ∙ length-append rows (row_for o.store names values ∷ []) in
      let room : (length rows + 1) * t.store.counts.variables ≤ length t.store.images = rw size at fits in
      rw (e, f) (replayed-more rows offers (replay rows offers h (omega arith) (omega arith)) names values a (omega arith) room)

-- ---- the theorem

same-counts : {o s t : Keyed} → Keeps o s → Keeps o t → s.store.counts.rows ≡ t.store.counts.rows → s.store.counts ≡ t.store.counts
same-counts {o = o} k l e =
    ap (λ (u : Keyed). u.store.counts) k.but-rows ∙ ap (λ (r : ℕ). (with_rows o.store r []).counts) e ∙ sym (ap (λ (u : Keyed). u.store.counts) l.but-rows)

module _ (s : Keyed) (text : List ℕ) (sizes : Dimensions) (calls : List Call) (opens : open_says s text ≡ done sizes) where
  abbrev o : Keyed
  o = open_store s text

  abbrev end : Keyed
  end = left s text calls

  abbrev rows : List (List ℕ)
  rows = permutations s text calls

  sound : Sound o end rows (offers s text calls)
  sound = (after-opening s text sizes calls opens).sound

  -- any store like the one opened, without rows and with room
  gets-only : (t : Keyed) → Sound o t [] [] → end.store.counts.rows * end.store.counts.variables ≤ length t.store.images → GetsOnly s text calls t
  gets-only t empty room =
      let count : end.store.counts.rows ≡ length rows = sym (held-count end.store) ∙ ap length sound.are-rows in
      let same : end.store.counts.variables ≡ t.store.counts.variables = same-variables sound.keeps ∙ sym (same-variables empty.keeps) in
      let fits : length rows * t.store.counts.variables ≤ length t.store.images = rw (count, same) at room in
      let r = replay o t empty.keeps (same-open empty.keeps ∙ (fresh s text sizes opens).opened) empty.formed empty.are-rows rows (offers s text calls) sound.held
      (omega (arith, (rest_of end.store (its-form end sound.formed)).rows_fit, count)) fits in
      let alike : held_rows (after t (offers s text calls)).store ≡ held_rows end.store = r.are-rows ∙ sym sound.are-rows in
      record {
        none-refused = r.none-refused;
        counts = same-counts (keeps-trans r.keeps empty.keeps) sound.keeps (sym (held-count (after t (offers s text calls)).store) ∙ ap length alike ∙ held-count end.store);
        rows = alike;
      }

  pub takes_back : TakesBack s text calls
  unfolding lent_anew
  takes_back =
      let f = fresh s text sizes opens in
      record {
        itself = λ e. gets-only o f.sound (omega (arith, images-calls o calls e, (rest_of end.store (its-form end sound.formed)).images-long));
        anew = λ images room. gets-only (lent_anew o images) (sound-call o o [] [] (lend images) f.sound)
            (omega (arith, room, length-append (take (o.store.counts.rows * o.store.counts.variables) o.store.images) images));
      }
