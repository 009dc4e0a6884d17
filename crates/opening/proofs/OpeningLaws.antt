-- Opening as a whole: what a text that opens is known to hold. Assumes nothing.
use mathlib.Core.Path.{◌≡◌, refl, sym, ◌∙◌}
use mathlib.Core.Bool.{Bool, true, false, cond, not}
use mathlib.Core.List.{List}
use Prim.Native.Nat.{ℕ, ◌≤◌, ◌<◌}
use borrow.Author.Tests.{le-leb, lt-leb, leb-true}
use lib.ListN.{length}
use lib.Dec.{leb}
use Rattle.std.proofs.Common.{Result, Ok, Err}
use Rattle.lists.proofs.Cases.{never}
use Rattle.comments.specs.Comments.{words_past}
use Rattle.store.specs.declared.refusal.Refusal.{Refusal}
use Rattle.opening.specs.Problem.{problem_of}
use Rattle.opening.specs.Clauses.{scan_from}
use Rattle.opening.specs.Opening.{body_of, opened_if, opened_after, opened_by}
use Rattle.opening.specs.declared.Sizes.{Sizes}
use Rattle.opening.specs.declared.Problem.{Problem}
use Rattle.opening.proofs.ProblemLaws.{line-limits}

-- ---- by the problem line, and by what the scan then says

module _ (text : List ℕ) where
  pub opened-refused : (r : Refusal) (literals ends keys : ℕ) → problem_of text ≡ Err r → opened_by text literals ends keys ≡ Err r
  unfolding opened_by
  opened-refused r literals ends keys e = rw e

  module _ (p : Problem) (line : problem_of text ≡ Ok p) where
    pub body-past : body_of text ≡ words_past text p.end
    unfolding body_of
    body-past = rw line (sym (line-limits text p line).body)

    pub opened-past : (literals ends keys : ℕ) → opened_by text literals ends keys ≡ opened_after (Ok p) (words_past text p.end) (length text) literals ends keys
    unfolding opened_by
    opened-past literals ends keys = rw (line, body-past)

    pub opened-scan : (s : Result ℕ Refusal) (literals ends keys : ℕ) → scan_from (length text) p.sizes.variables p.sizes.clauses 0 0 (words_past text p.end) ≡ s
        → opened_by text literals ends keys ≡ opened_if s p.sizes literals ends keys
    opened-scan s literals ends keys q = opened-past literals ends keys ∙ rw q

-- ---- by the room that there is

module _ (sizes : Sizes) (count literals ends keys : ℕ) where
  pub short-literals : literals < count → opened_if (Ok count) sizes literals ends keys ≡ Err (Refusal.TooShort count)
  short-literals h = rw (lt-leb count literals h)

  module _ (h : count ≤ literals) where
    pub short-ends : ends < sizes.clauses → opened_if (Ok count) sizes literals ends keys ≡ Err (Refusal.TooShort sizes.clauses)
    short-ends k = rw (le-leb count literals h, lt-leb sizes.clauses ends k)

    pub short-keys : sizes.clauses ≤ ends → keys < sizes.clauses → opened_if (Ok count) sizes literals ends keys ≡ Err (Refusal.TooShort sizes.clauses)
    short-keys k l = rw (le-leb count literals h, le-leb sizes.clauses ends k, lt-leb sizes.clauses keys l)

    pub long-enough : sizes.clauses ≤ ends → sizes.clauses ≤ keys → opened_if (Ok count) sizes literals ends keys ≡ Ok sizes
    long-enough k l = rw (le-leb count literals h, le-leb sizes.clauses ends k, le-leb sizes.clauses keys l)

-- ---- a scan that opens is done, and there is room

pub record SlicesFit (s : Result ℕ Refusal) (m literals ends keys : ℕ) : Type 0 where
  pub count : ℕ
  pub done : s ≡ Ok count
  pub literals-fit : count ≤ literals
  pub ends-fit : m ≤ ends
  pub keys-fit : m ≤ keys

pub room : (s : Result ℕ Refusal) (sizes : Sizes) (literals ends keys : ℕ) (o : Sizes) → opened_if s sizes literals ends keys ≡ Ok o
    → SlicesFit s sizes.clauses literals ends keys × (sizes ≡ o)
room (Err r) sizes literals ends keys o e = never (cc)
room (Ok count) sizes literals ends keys o e =
    by (leb count literals) refl (leb sizes.clauses ends) refl (leb sizes.clauses keys) refl e
  where
    by : (t : Bool) → leb count literals ≡ t → (u : Bool) → leb sizes.clauses ends ≡ u → (v : Bool) → leb sizes.clauses keys ≡ v
        → cond (not t) (Err (Refusal.TooShort count)) (cond (not u) (Err (Refusal.TooShort sizes.clauses)) (cond (not v) (Err (Refusal.TooShort sizes.clauses)) (Ok sizes))) ≡ Ok o
        → SlicesFit (Ok count) sizes.clauses literals ends keys × (sizes ≡ o)
    by true l true k true h q =
        (record { count = count; done = refl; literals-fit = leb-true count literals l; ends-fit = leb-true sizes.clauses ends k; keys-fit = leb-true sizes.clauses keys h }, cc)
    by true l true k false h q = never (cc)
    by true l false k v h q = never (cc)
    by false l u k v h q = never (cc)

-- ---- a text that opens

pub record Opens (text : List ℕ) (literals ends keys : ℕ) (sizes : Sizes) : Type 0 where
  pub start : ℕ
  pub problem : problem_of text ≡ Ok (record { sizes = sizes; end = start })
  pub fits : SlicesFit (scan_from (length text) sizes.variables sizes.clauses 0 0 (body_of text)) sizes.clauses literals ends keys

pub opens : (text : List ℕ) (literals ends keys : ℕ) (sizes : Sizes) → opened_by text literals ends keys ≡ Ok sizes → Opens text literals ends keys sizes
unfolding opened_by
opens text literals ends keys sizes e = by (problem_of text) refl e
  where
    by : (p : Result Problem Refusal) → problem_of text ≡ p → opened_after p (body_of text) (length text) literals ends keys ≡ Ok sizes → Opens text literals ends keys sizes
    by (Err r) k q = never (cc)
    by (Ok p) k q =
        let r = room (scan_from (length text) p.sizes.variables p.sizes.clauses 0 0 (body_of text)) p.sizes literals ends keys sizes q in
        rw (← r.1) (record { start = p.end; problem = k; fits = r.0 })
