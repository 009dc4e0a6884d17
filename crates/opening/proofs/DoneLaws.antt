-- A scan that is done: what it says of the literals and the ends, and of each turn of the pass that writes them. Assumes nothing.
use mathlib.Core.Path.{◌≡◌, refl, ap, ◌∙◌}
use mathlib.Core.Bool.{Bool, true, false, cond, not}
use mathlib.Core.List.{List, [], ◌∷◌}
use Prim.Native.Nat.{ℕ, ◌+◌, ◌/◌, ◌≤◌, ◌<◌}
use native.Mathlib.Omega.{arith}
use borrow.Author.Tests.{eq-eqb, ne_eqb, le-leb, eqb-true, eqb-false, ltb-false}
use lib.ListN.{length}
use lib.Dec.{eqb, ltb}
use Rattle.lists.specs.Tests.{all_of}
use Rattle.lists.proofs.Cases.{never, and_both}
use Rattle.std.proofs.Common.{Ok, Err}
use Rattle.dimacs.specs.Words.{Piece}
use Rattle.dimacs.specs.Numbers.{Numeral, numeral_of}
use Rattle.dimacs.specs.declared.Number.{Number}
use Rattle.store.specs.Stores.{max_literals, rising}
use Rattle.store.specs.Literals.{code_of, is_literal}
use Rattle.store.specs.Numerals.{code_in, is_numeral}
use Rattle.store.specs.declared.refusal.Refusal.{Refusal}
use Rattle.store.proofs.FormLaws.{literal-high}
use Rattle.opening.specs.Clauses.{scan_from, literals_in, ends_from}
use Rattle.opening.proofs.NextNumber.{Missing, none, bad}
use Rattle.opening.proofs.CodeLaws.{coded}

-- ---- a word of a scan that is done: a 0 or a literal that fits, and the rest is done

data Passed (end n m total closed count : ℕ) (w : Piece) (ws : List Piece) : Type 0 where
  closes : code_in w ≡ 0 → scan_from end n m (closed + 1) count ws ≡ Ok total → Passed end n m total closed count w ws
  reads : (code_in w ≡ 0 → ⊥) → is_literal n (code_in w) ≡ true → (count ≡ max_literals → ⊥)
      → scan_from end n m closed (count + 1) ws ≡ Ok total → Passed end n m total closed count w ws

record WordPassed (end n m total closed count : ℕ) (w : Piece) (ws : List Piece) : Type 0 where
  pub more : closed ≡ m → ⊥
  pub number : Number
  pub is : numeral_of w.bytes ≡ Numeral.Is number
  pub passed : Passed end n m total closed count w ws

passed-word : (end n m total closed count : ℕ) (w : Piece) (ws : List Piece)
    → scan_from end n m closed count (w ∷ ws) ≡ Ok total → WordPassed end n m total closed count w ws
unfolding scan_from is_literal
passed-word end n m total closed count w ws e =
    by (eqb closed m) refl (numeral_of w.bytes) refl (eqb (code_in w) 0) refl (ltb n (code_in w / 2)) refl (eqb count max_literals) refl e
  where
    by : (a : Bool) → eqb closed m ≡ a → (p : Numeral) → numeral_of w.bytes ≡ p → (z : Bool) → eqb (code_in w) 0 ≡ z
        → (l : Bool) → ltb n (code_in w / 2) ≡ l → (k : Bool) → eqb count max_literals ≡ k
        → cond a (Err (Refusal.ClauseCount w.place))
        (cond (not (is_numeral p)) (Err (Refusal.NotNumber w.place))
        (cond z (scan_from end n m (closed + 1) count ws)
        (cond l (Err (Refusal.LiteralBeyond w.place))
        (cond k (Err (Refusal.TooManyLiterals w.place))
        (scan_from end n m closed (count + 1) ws))))) ≡ Ok total
        → WordPassed end n m total closed count w ws
    by true ea p ep z ez l el k ek d = never (cc)
    by false ea Numeral.Not ep z ez l el k ek d = never (cc)
    by false ea (Numeral.Is x) ep true ez l el k ek d =
        record { more = eqb-false closed m ea; number = x; is = ep; passed = closes (eqb-true (code_in w) 0 ez) d }
    by false ea (Numeral.Is x) ep false ez true el k ek d = never (cc)
    by false ea (Numeral.Is x) ep false ez false el true ek d = never (cc)
    by false ea (Numeral.Is x) ep false ez false el false ek d =
        let other : code_in w ≡ 0 → ⊥ = eqb-false (code_in w) 0 ez in
        let literal : is_literal n (code_in w) ≡ true = and_both (le-leb 1 (code_in w / 2) ((coded w x ep).low other)) (le-leb (code_in w / 2) n (ltb-false n (code_in w / 2) el)) in
        record { more = eqb-false closed m ea; number = x; is = ep; passed = reads other literal (eqb-false count max_literals ek) d }

-- ---- the literals and the ends, by a word

module _ (w : Piece) (ws : List Piece) where
  literals-zero : code_in w ≡ 0 → literals_in (w ∷ ws) ≡ literals_in ws
  unfolding literals_in
  literals-zero z = rw (eq-eqb (code_in w) 0 z)

  literals-other : (code_in w ≡ 0 → ⊥) → literals_in (w ∷ ws) ≡ code_in w ∷ literals_in ws
  unfolding literals_in
  literals-other z = rw (ne_eqb (code_in w) 0 z)

  ends-zero : (k : ℕ) → code_in w ≡ 0 → ends_from k (w ∷ ws) ≡ k ∷ ends_from k ws
  unfolding ends_from
  ends-zero k z = rw (eq-eqb (code_in w) 0 z)

  ends-other : (k : ℕ) → (code_in w ≡ 0 → ⊥) → ends_from k (w ∷ ws) ≡ ends_from (k + 1) ws
  unfolding ends_from
  ends-other k z = rw (ne_eqb (code_in w) 0 z)

-- ---- how many there are, and how they stand

-- the last of a list, or d
unfoldable pub last_or : ℕ → List ℕ → ℕ
last_or d [] = d
last_or d (x ∷ l) = last_or x l

pub record Counted (n m total closed count : ℕ) (ws : List Piece) : Type 0 where
  pub literals : count + length (literals_in ws) ≡ total
  pub ends : closed + length (ends_from count ws) ≡ m
  pub total-within : count ≤ max_literals → total ≤ max_literals
  pub good : all_of (is_literal n) (literals_in ws) ≡ true
  pub rise : (from : ℕ) → from ≤ count → rising from (ends_from count ws) ≡ true
  pub last : (d : ℕ) → (closed ≡ m → d ≡ count) → last_or d (ends_from count ws) ≡ total

pub counted : (end n m total : ℕ) (ws : List Piece) (closed count : ℕ) → scan_from end n m closed count ws ≡ Ok total → Counted n m total closed count ws
unfolding scan_from literals_in ends_from all_of rising last_or
counted end n m total [] closed count e = by (eqb closed m) refl e
  where
    by : (t : Bool) → eqb closed m ≡ t → cond t (Ok count) (Err (Refusal.ClauseCount end)) ≡ Ok total → Counted n m total closed count []
    by true k d =
        let f : count ≡ total = cc in
        let g : closed ≡ m = eqb-true closed m k in
        record {
          literals = omega arith;
          ends = omega arith;
          total-within = λ h. omega arith;
          good = refl;
          rise = λ from h. refl;
          last = λ x h. h g ∙ f;
        }
    by false k d = never (cc)
counted end n m total (w ∷ ws) closed count e = by (passed-word end n m total closed count w ws e) (counted end n m total ws)
  where
    by : WordPassed end n m total closed count w ws
        → ((closed' count' : ℕ) → scan_from end n m closed' count' ws ≡ Ok total → Counted n m total closed' count' ws)
        → Counted n m total closed count (w ∷ ws)
    by p ih = go p.passed
      where
        go : Passed end n m total closed count w ws → Counted n m total closed count (w ∷ ws)
        go (closes z d) =
            let t = ih (closed + 1) count d in
            record {
              literals = rw (literals-zero w ws z) t.literals;
              ends = rw (ends-zero w ws count z) (omega (arith, t.ends));
              total-within = t.total-within;
              good = rw (literals-zero w ws z) t.good;
              rise = λ from h. rw (ends-zero w ws count z) (and_both (le-leb from count h) (t.rise count (omega arith)));
              last = λ x h. rw (ends-zero w ws count z) (t.last count (λ k. refl));
            }
        go (reads z l k d) =
            let t = ih closed (count + 1) d in
            record {
              literals = rw (literals-other w ws z) (omega (arith, t.literals));
              ends = rw (ends-other w ws count z) t.ends;
              total-within = λ h. t.total-within (omega arith);
              good = rw (literals-other w ws z) (and_both l t.good);
              rise = λ from h. rw (ends-other w ws count z) (t.rise from (omega arith));
              last = λ x h. rw (ends-other w ws count z) (t.last x (λ q. absurd (p.more q)));
            }

-- ---- a turn of the pass that writes: a 0, or a literal

module _ (end n m total closed count : ℕ) (ws : List Piece) (done : scan_from end n m closed count ws ≡ Ok total)
    (w : Piece) (rest : List Piece) (e : ws ≡ w ∷ rest) (x : Number) (is : numeral_of w.bytes ≡ Numeral.Is x) where
  pub record ZeroTurn : Type 0 where
    pub room : closed < m
    pub scanned : scan_from end n m (closed + 1) count rest ≡ Ok total
    pub codes : literals_in ws ≡ literals_in rest
    pub clauses : ends_from count ws ≡ count ∷ ends_from count rest

  pub record LiteralTurn : Type 0 where
    pub room : count < total
    pub not_full : count ≡ max_literals → ⊥
    pub small : x.size ≤ n
    pub scanned : scan_from end n m closed (count + 1) rest ≡ Ok total
    pub codes : literals_in ws ≡ code_of x.size x.negative ∷ literals_in rest
    pub clauses : ends_from count ws ≡ ends_from (count + 1) rest

  passed_here : Passed end n m total closed count w rest
  passed_here = (passed-word end n m total closed count w rest (rw e at done)).passed

  all : Counted n m total closed count ws
  all = counted end n m total ws closed count done

  pub zero_turn : x.size ≡ 0 → ZeroTurn
  zero_turn z = by passed_here
    where
      zero : code_in w ≡ 0
      zero = (coded w x is).zero z

      clauses-are : ends_from count ws ≡ count ∷ ends_from count rest
      clauses-are = ap (ends_from count) e ∙ ends-zero w rest count zero

      by : Passed end n m total closed count w rest → ZeroTurn
      by (closes k d) = record { room = omega (arith, all.ends, ap length clauses-are); scanned = d; codes = ap literals_in e ∙ literals-zero w rest zero; clauses = clauses-are }
      by (reads k l f d) = absurd (k zero)

  pub literal-turn : (x.size ≡ 0 → ⊥) → LiteralTurn
  literal-turn z = by passed_here
    where
      other : code_in w ≡ 0 → ⊥
      other = (coded w x is).other z

      codes-are : literals_in ws ≡ code_of x.size x.negative ∷ literals_in rest
      codes-are = ap literals_in e ∙ literals-other w rest other ∙ rw (coded w x is).code

      by : Passed end n m total closed count w rest → LiteralTurn
      by (closes k d) = absurd (other k)
      by (reads k l f d) =
          record {
            room = omega (arith, all.literals, ap length codes-are);
            not_full = f;
            small = omega (arith, literal-high n (code_in w) l, (coded w x is).variable);
            scanned = d;
            codes = codes-are;
            clauses = ap (ends_from count) e ∙ ends-other w rest count other;
          }

-- where no number is left, no word is left
pub none_left : (end n m total closed count : ℕ) (ws : List Piece) → scan_from end n m closed count ws ≡ Ok total → Missing ws → ws ≡ []
none_left end n m total closed count [] done none = refl
none_left end n m total closed count (w ∷ ws) done (bad e) =
    let p = passed-word end n m total closed count w ws done in
    never (cc (p.is, e))
