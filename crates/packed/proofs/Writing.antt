-- What a writer holds: after a run of values more, and when it is finished. A word is the binary number of its values. Assumes nothing.
use mathlib.Core.Path.{◌≡◌, refl, sym, ap, ◌∙◌}
use mathlib.Core.Bool.{Bool, true, false, cond}
use mathlib.Core.List.{List, [], ◌++◌}
use mathlib.Core.Logic.{⊎_elim}
use Prim.Native.Nat.{ℕ, zero, suc, ◌+◌, ◌-◌, ◌*◌, ◌/◌, ◌%◌, ◌^◌, ◌≤◌, ◌<◌}
use native.Mathlib.Nat.{pow-suc, add-zero}
use native.Mathlib.Omega.{arith}
use lib.ListN.{length, get_or, take, drop, set, replicate, length-append, length-replicate, get_or-replicate, length-set, take-append-drop, get_or-append, get_or-eq_default}
use lib.Pow.{pow_pos, pow_mono, shl_exact}
use lib.Seq.{length-take-le, get_or-take, get_or-set_same, get_or-set_other, get_or-append-add, drop-set-lt, drop-drop, ext_get_or}
use Rattle.lists.proofs.Cases.{eq-or-ne}
use Rattle.packed.specs.Words.{max_words, binary, word_count, words_of}
use Rattle.packed.proofs.Trips.{binary-lt, length-words, get_or-words}
use Rattle.packed.specs.declared.writer.Writer.{Writer}
use Rattle.packed.specs.Writing.{WriterHolds, WriterRoom}

-- ---- binary numbers

binary-same : (k : ℕ) (f g : ℕ → Bool) → ((p : ℕ) → p < k → f p ≡ g p) → binary k f ≡ binary k g
unfolding binary
binary-same zero f g s = refl
binary-same (suc k) f g s = rw (binary-same k f g (λ p h. s p (omega arith)), s k (omega arith))

-- k digits alike behind the first r
binary-run : (r k : ℕ) (f : ℕ → Bool) (b : Bool) → ((p : ℕ) → r ≤ p → p < r + k → f p ≡ b) → binary (r + k) f ≡ binary r f * 2 ^ k + cond b (2 ^ k - 1) 0
unfolding binary
binary-run r zero f b s = rw (add-zero r) (go b)
  where
    go : (b : Bool) → binary r f ≡ binary r f * 2 ^ 0 + cond b (2 ^ 0 - 1) 0
    go true = omega arith
    go false = omega arith
binary-run r (suc k) f b s =
    let next : r + suc k ≡ suc (r + k) = omega arith in
    rw (next, s (r + k) (omega arith) (omega arith), binary-run r k f b (λ p l h. s p l (omega arith)), pow-suc 2 k) (go b)
  where
    go : (b : Bool) → (binary r f * 2 ^ k + cond b (2 ^ k - 1) 0) * 2 + cond b 1 0 ≡ binary r f * (2 ^ k * 2) + cond b (2 ^ k * 2 - 1) 0
    go true = omega (arith, pow_pos k)
    go false = omega arith

-- ---- the words of a list of values

-- word i of a list of values
abbrev word : List Bool → ℕ → ℕ
word values i = binary 64 (λ p. get_or values (i * 64 + p) false)

-- the first k words are in the buffer
abbrev WordsIn : List Bool → ℕ → List ℕ → Type 0
WordsIn values k out = (i : ℕ) → i < k → get_or out i 0 ≡ word values i

words_more : (values : List Bool) (k v : ℕ) (out : List ℕ) → k < length out → WordsIn values k out → v ≡ word values k → WordsIn values (k + 1) (set out k v)
words_more values k v out h f e i l =
    ⊎_elim
    (λ (q : i ≡ k). rw q (get_or-set_same out k v 0 h ∙ e))
    (λ (q : i ≡ k → ⊥). get_or-set_other out k i v 0 q ∙ f i (omega arith))
    (eq-or-ne i k)

past_more : (k v : ℕ) (out old : List ℕ) → drop k out ≡ drop k old → drop (k + 1) (set out k v) ≡ drop (k + 1) old
past_more k v out old e =
    drop-set-lt (k + 1) out k v (omega arith) ∙ sym (drop-drop 1 k out) ∙ ap (drop 1) e ∙ drop-drop 1 k old

-- a buffer whose first words are those of the values, the rest as it was
words-all : (values : List Bool) (k : ℕ) (out old : List ℕ) → k ≡ word_count (length values) → k ≤ length out
    → WordsIn values k out → drop k out ≡ drop k old → out ≡ words_of values ++ drop (word_count (length values)) old
words-all values k out old e h f past =
    let size : length (take k out) ≡ k = length-take-le k out h in
    let front : take k out ≡ words_of values =
    ext_get_or 0 (take k out) (words_of values) (size ∙ e ∙ sym (length-words values))
    (λ i l. get_or-take k out i 0 (omega arith) ∙ f i (omega arith) ∙ sym (get_or-words values i (omega (arith, e)))) in
    sym (take-append-drop k out) ∙ rw (front, past, e)

-- ---- a run of values more: the word goes on, or is whole

-- the begun word with k digits more
abbrev pub longer : ℕ → ℕ → Bool → ℕ
longer word k v = word * 2 ^ k + cond v (2 ^ k - 1) 0

module _ {values : List Bool} {w : Writer} {old out : List ℕ} (h : WriterHolds values w old out) where
  begun-lt : w.word < 2 ^ (w.taken % 64)
  begun-lt = rw h.begun (binary-lt (w.taken % 64) _)

  -- whole words stay as they are when values follow
  stay : (more : List Bool) → WordsIn (values ++ more) (w.taken / 64) out
  stay more i l =
      h.whole i l
      ∙ binary-same 64 _ _ (λ p q. sym (get_or-append values more false (i * 64 + p) (omega (arith, h.count))))

  module _ (v : Bool) (k : ℕ) where
    taken_more : w.taken + k ≡ length (values ++ replicate k v)
    taken_more = omega (arith, h.count, length-append values (replicate k v), length-replicate k v)

    word_more : longer w.word k v ≡ binary (w.taken % 64 + k) (λ p. get_or (values ++ replicate k v) (w.taken / 64 * 64 + p) false)
    word_more =
        let f : ℕ → Bool = λ p. get_or (values ++ replicate k v) (w.taken / 64 * 64 + p) false in
        let before = binary-same (w.taken % 64) (λ p. get_or values (w.taken / 64 * 64 + p) false) f
        (λ p l. sym (get_or-append values (replicate k v) false (w.taken / 64 * 64 + p) (omega (arith, h.count)))) in
        let behind : (p : ℕ) → w.taken % 64 ≤ p → p < w.taken % 64 + k → f p ≡ v = λ p l q.
        let place : w.taken / 64 * 64 + p ≡ length values + (p - w.taken % 64) = omega (arith, h.count) in
        rw place (get_or-append-add values (replicate k v) (p - w.taken % 64) false ∙ get_or-replicate k (p - w.taken % 64) v false (omega arith)) in
        sym (binary-run (w.taken % 64) k f v behind ∙ ap (λ (word : ℕ). longer word k v) (sym (h.begun ∙ before)))

    pub longer-fits : w.taken % 64 + k ≤ 64 → longer w.word k v < 2 ^ 64
    longer-fits room =
        let f : ℕ → Bool = λ p. get_or (values ++ replicate k v) (w.taken / 64 * 64 + p) false in
        omega (arith, word_more, binary-lt (w.taken % 64 + k) f, pow_mono room)

    -- the shift loses nothing
    pub shifted : w.taken % 64 + k ≤ 64 → (w.word * 2 ^ k) % 2 ^ 64 ≡ w.word * 2 ^ k
    shifted room = shl_exact (w.taken % 64) k 64 begun-lt room

    module _ (word : ℕ) (is : word ≡ longer w.word k v) (room : w.taken % 64 + k ≤ 64) where
      pub begun_more : ((w.taken + k) % 64 ≡ 0 → ⊥) → WriterHolds (values ++ replicate k v) (record { taken = w.taken + k; word = word }) old out
      begun_more r =
          let same : (w.taken + k) / 64 ≡ w.taken / 64 = omega arith in
          let next : (w.taken + k) % 64 ≡ w.taken % 64 + k = omega arith in
          record {
            count = taken_more;
            begun = rw (same, next) (is ∙ word_more);
            size = h.size;
            whole = rw same (stay (replicate k v));
            past = rw same h.past;
          }

      pub whole-more : 1 ≤ k → (w.taken + k) % 64 ≡ 0 → w.taken < 64 * length out
          → WriterHolds (values ++ replicate k v) (record { taken = w.taken + k; word = 0 }) old (set out (w.taken / 64) word)
      unfolding binary
      whole-more some r l =
          let next : (w.taken + k) / 64 ≡ w.taken / 64 + 1 = omega arith in
          let all : w.taken % 64 + k ≡ 64 = omega arith in
          record {
            count = taken_more;
            begun = rw r;
            size = length-set out (w.taken / 64) word ∙ h.size;
            whole = rw next (words_more (values ++ replicate k v) (w.taken / 64) word out (omega arith) (stay (replicate k v)) (rw all at (is ∙ word_more)));
            past = rw next (past_more (w.taken / 64) word out old h.past);
          }

-- ---- the start, what comes next, and the end

pub holds-none : (out : List ℕ) → WriterHolds [] (record { taken = 0; word = 0 }) out out
unfolding binary
holds-none out = record { count = refl; begun = refl; size = refl; whole = λ i l. absurd (omega arith); past = refl }

pub room_for : {values : List Bool} {w : Writer} {old out : List ℕ} → WriterHolds values w old out → (more : ℕ)
    → length values + more ≤ 64 * length old → length values + more ≤ 64 * max_words → WriterRoom w more out
room_for {values} {old = old} h more fits bounded = record {
  values = values;
  old = old;
  holds = h;
  fits = omega (arith, h.count, h.size);
  bounded = omega (arith, h.count);
}

pub less-room : {w : Writer} {more : ℕ} {out : List ℕ} → WriterRoom w more out → (k : ℕ) → k ≤ more → WriterRoom w k out
less-room r k h = record { values = r.values; old = r.old; holds = r.holds; fits = omega (arith, r.fits); bounded = omega (arith, r.bounded) }

module _ {values : List Bool} {w : Writer} {old out : List ℕ} (h : WriterHolds values w old out) (room : w.taken ≤ 64 * length out) where
  pub finished-whole : w.taken % 64 ≡ 0 → out ≡ words_of values ++ drop (word_count (length values)) old
  unfolding word_count
  finished-whole r = words-all values (w.taken / 64) out old (omega (arith, h.count)) (omega arith) h.whole h.past

  pub finished-begun : (w.taken % 64 ≡ 0 → ⊥)
      → set out (w.taken / 64) ((w.word * 2 ^ (64 - w.taken % 64)) % 2 ^ 64) ≡ words_of values ++ drop (word_count (length values)) old
  unfolding word_count
  finished-begun r =
      let k : ℕ = w.taken / 64 in
      let rest : ℕ = w.taken % 64 in
      let v : ℕ = (w.word * 2 ^ (64 - rest)) % 2 ^ 64 in
      let all : rest + (64 - rest) ≡ 64 = omega arith in
      let f : ℕ → Bool = λ p. get_or values (k * 64 + p) false in
      let exact : v ≡ w.word * 2 ^ (64 - rest) = shl_exact rest (64 - rest) 64 (begun-lt h) (omega arith) in
      let spare = binary-run rest (64 - rest) f false (λ p l q. get_or-eq_default values false (omega (arith, h.count))) in
      let whole : w.word * 2 ^ (64 - rest) ≡ binary (rest + (64 - rest)) f = omega (arith, ap (λ (m : ℕ). m * 2 ^ (64 - rest)) h.begun, spare) in
      let last : v ≡ word values k = exact ∙ whole ∙ ap (λ (m : ℕ). binary m f) all in
      words-all values (k + 1) (set out k v) old (omega (arith, h.count)) (omega (arith, length-set out k v))
      (words_more values k v out (omega arith) h.whole last) (past_more k v out old h.past)
