-- One turn of the search for a missing image: clause c of a store, what it is sent to, and what is found of it, for any row. Assumes nothing.
use Rattle.std.proofs.Common.{◌≡◌, ℕ, ◌<◌, true, List, [], length, get_or, sym, ap, ◌∙◌, arith}
use Rattle.lists.specs.Tests.{all_of, any_of}
use Rattle.lists.proofs.Members.{all-at}
use Rattle.store.specs.Literals.{is_literal}
use Rattle.store.specs.Held.{formula_of}
use Rattle.store.specs.Stores.{clause_at}
use Rattle.store.specs.declared.clauses.Clauses.{Clauses}
use Rattle.store.proofs.Held.{formula-length, its-clause, its-literals}
use Rattle.store.proofs.Formed.{row_of}
use Rattle.numbers.specs.Numbers.{numbers}
use Rattle.keys.specs.Keys.{key_by}
use Rattle.keys.specs.Marks.{Marked, Places, sent_clause}
use Rattle.keys.proofs.MarkLaws.{sent-literals}
use Rattle.symmetry.specs.Sets.{same_set}
use Rattle.symmetry.specs.Judged.{has_opposites}
use Rattle.symmetry.specs.Symmetry.{has_image}
use Rattle.symmetry.specs.Fitting.{FitsRow, ImagePlaces}
use Rattle.symmetry.specs.Sought.{Sought, SoughtKey}
use Rattle.symmetry.proofs.JudgedLaws.{opposites-image}
use Rattle.symmetry.proofs.KeyLaws.{one_key, sent-image}

module _ (s : Clauses) (places : List ℕ) (c : ℕ) (h : c < s.count) where
  abbrev formula : List (List ℕ)
  formula = formula_of s

  abbrev own : List ℕ
  own = clause_at s.literals.now s.ends.now c

  abbrev sent : List ℕ
  sent = sent_clause places own

  pub inside : c < length formula
  inside = omega (arith, formula-length s)

  pub its : own ≡ get_or formula c []
  its = sym (its-clause s c h)

  module _ (p : Places places) (mark : ℕ) (marks : List ℕ) (marked : Marked mark sent marks) where
    pub its-sought : Sought mark marks sent
    its-sought = record { literals = sent-literals places p own (its-literals s c h); marked = marked }

    pub its-key : (table : List ℕ) (key : ℕ) → key ≡ key_by table sent → table ≡ numbers → SoughtKey key mark marks
    its-key table key e is image other = one_key mark marks image sent other its-sought ∙ sym (e ∙ ap (λ (t : List ℕ). key_by t sent) is)

  module _ (row : List ℕ) (images : ImagePlaces row places) (good : FitsRow row formula) where
    fits : all_of (is_literal (length row)) own ≡ true
    fits = rw its (all-at (all_of (is_literal (length row))) formula [] good c inside)

    pub image-found : any_of (same_set sent) formula ≡ has_image row formula own
    unfolding has_image
    image-found = ap (λ (image : List ℕ). any_of (same_set image) formula) (sent-image row places images own fits)

    -- what the clause is sent to has a pair just where it has one itself
    pub opposites-found : has_opposites sent ≡ has_opposites own
    opposites-found = ap has_opposites (sent-image row places images own fits) ∙ opposites-image (length row) row (row_of (length row) row images.is-row) own fits
