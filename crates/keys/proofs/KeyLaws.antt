-- The key of a clause by a loop from its end: the codes from i on, a code more, no code. Clauses with the same literals have the same key. Assumes nothing.
use Rattle.std.proofs.Common.{◌≡◌, ℕ, ◌+◌, ◌-◌, ◌%◌, ◌^◌, ◌<◌, ◌≤◌, true, false, List, [], ◌∷◌, ◌++◌, map, length, get_or, take, drop, sym, ap, ◌∙◌, arith, length-take, drop_of_length-le}
use Rattle.std.proofs.lemmas.List.{length_push, take_more, same_from_push}
use Rattle.lists.specs.Tests.{has}
use Rattle.lists.proofs.Steps.{drop-step}
use Rattle.keys.specs.Keys.{different, total, number_in, key_by}
use Rattle.keys.proofs.Sums.{same_total}

-- "independent of order, proved equal for equal sets" (document 01, "Forms and where they belong"): neither order nor repeats matter
pub same_key : (table a b : List ℕ) → ((x : ℕ) → has a x ≡ has b x) → key_by table a ≡ key_by table b
unfolding key_by
same_key table a b e = ap (λ (s : ℕ). s % 2 ^ 64) (same_total (number_in table) a b e)

-- A clause gone through from its end: of a front that is left, the last is taken, and more are left.
pub record FromEnd (clause left more : List ℕ) (code : ℕ) : Type 0 where
  pub front : more ≡ take (length more) clause
  pub next : length left ≡ length more + 1
  pub inside : length more < length clause
  pub is : code ≡ get_or clause (length more) 0

pub from_end : (clause left more : List ℕ) (code : ℕ) → left ≡ take (length left) clause → left ≡ more ++ code ∷ [] → FromEnd clause left more code
from_end clause left more code front last =
    let next : length left ≡ length more + 1 = ap length last ∙ length_push more code in
    let inside : length more < length clause = omega (arith, ap length front, length-take {A = ℕ} (length left) clause) in
    let same = same_from_push more (take (length more) clause) code (get_or clause (length more) 0) (sym last ∙ front ∙ rw next (take_more clause (length more) 0 inside)) in
    record { front = same.0; next = next; inside = inside; is = same.1 }

-- the literal at hand: it stands at i, the literals that came are those from k = i + 1 on, and it has a place in a table of numbers
pub record Hand (clause : List ℕ) (i k code place : ℕ) : Type 0 where
  pub next : k ≡ i + 1
  pub inside : i < length clause
  pub is : code ≡ get_or clause i 0
  pub low : 2 ≤ code
  pub placed : place ≡ code - 2

pub hand-rest : (clause : List ℕ) (i k code place : ℕ) → Hand clause i k code place → drop i clause ≡ code ∷ drop k clause
hand-rest clause i k code place h = rw (drop-step clause i 0 h.inside, h.is, h.next)

module _ (table clause : List ℕ) where
  pub key-none : (i : ℕ) → length clause ≤ i → key_by table (drop i clause) ≡ 0
  unfolding key_by different total
  key-none i h = rw (drop_of_length-le clause {i = i} h)

  module _ (i k code place : ℕ) (h : Hand clause i k code place) where
    pub key-again : has (drop k clause) code ≡ true → key_by table (drop k clause) ≡ key_by table (drop i clause)
    unfolding key_by different
    key-again e = rw (hand-rest clause i k code place h, e)

    pub key_more : has (drop k clause) code ≡ false → (sum : ℕ) → sum ≡ key_by table (drop k clause) → (sum + get_or table place 0) % 2 ^ 64 ≡ key_by table (drop i clause)
    unfolding key_by different total
    key_more e sum f = rw (f, hand-rest clause i k code place h, e, h.placed) (wraps (number_in table code) (total (map (number_in table) (different (drop k clause)))))
      where
        wraps : (x s : ℕ) → (s % 2 ^ 64 + x) % 2 ^ 64 ≡ (x + s) % 2 ^ 64
        wraps x s = omega arith
