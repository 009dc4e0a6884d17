-- Bytes written over a buffer from a place on: one after another, the last first, and byte by byte. Assumes nothing.
use mathlib.Core.Path.{◌≡◌, refl, sym, ap, ap₂, ◌∙◌}
use mathlib.Core.List.{List, [], ◌∷◌, ◌++◌}
use Prim.Native.Nat.{ℕ, suc, ◌+◌, ◌≤◌, ◌<◌}
use native.Mathlib.Nat.{add-zero}
use native.Mathlib.Omega.{arith}
use lib.ListN.{length, set, length-append, length-set}
use lib.Seq.{sets, length-sets, sets-eq, set-set, set_comm}
use Rattle.render.specs.Text.{written_at}

-- as stores, one byte after another
pub stores : (at : ℕ) (bytes buffer : List ℕ) → at + length bytes ≤ length buffer → written_at at bytes buffer ≡ sets buffer at bytes
unfolding written_at
stores at bytes buffer h = sym (sets-eq bytes buffer at h)

pub length-written : (at : ℕ) (a buffer : List ℕ) → at + length a ≤ length buffer → length (written_at at a buffer) ≡ length buffer
length-written at a buffer h = ap length (stores at a buffer h) ∙ length-sets buffer at a

-- one after another
sets-append : (at : ℕ) (a b buffer : List ℕ) → sets (sets buffer at a) (at + length a) b ≡ sets buffer at (a ++ b)
sets-append at [] b buffer = ap (λ (n : ℕ). sets buffer n b) (add-zero at)
sets-append at (x ∷ a) b buffer =
    let e : at + suc (length a) ≡ suc at + length a = omega arith in
    ap (λ (n : ℕ). sets (sets (set buffer at x) (suc at) a) n b) e ∙ sets-append (suc at) a b (set buffer at x)

pub written-written : (at : ℕ) (a b buffer : List ℕ) → at + length a + length b ≤ length buffer
    → written_at (at + length a) b (written_at at a buffer) ≡ written_at at (a ++ b) buffer
written-written at a b buffer h =
    let l = length-written at a buffer (omega arith) in
    stores (at + length a) b (written_at at a buffer) (omega arith)
    ∙ ap (λ (s : List ℕ). sets s (at + length a) b) (stores at a buffer (omega arith))
    ∙ sets-append at a b buffer
    ∙ sym (stores at (a ++ b) buffer (omega (arith, length-append a b)))

-- and the last byte first
sets-comm : (at last b : ℕ) (a buffer : List ℕ) → at + length a ≤ last → sets (set buffer last b) at a ≡ set (sets buffer at a) last b
sets-comm at last b [] buffer h = refl
sets-comm at last b (x ∷ a) buffer h =
    ap (λ (s : List ℕ). sets s (suc at) a) (set_comm buffer last at b x (λ e. omega arith)) ∙ sets-comm (suc at) last b a (set buffer at x) (omega arith)

pub written_last : (at b : ℕ) (a buffer : List ℕ) → at + length a < length buffer
    → written_at at a (set buffer (at + length a) b) ≡ written_at at (a ++ (b ∷ [])) buffer
written_last at b a buffer h =
    stores at a (set buffer (at + length a) b) (omega (arith, length-set buffer (at + length a) b))
    ∙ sets-comm at (at + length a) b a buffer (omega arith)
    ∙ sets-append at a (b ∷ []) buffer
    ∙ sym (stores at (a ++ (b ∷ [])) buffer (omega (arith, length-append a (b ∷ []))))

-- over a byte that stands where the first is to go
written_over : (at x : ℕ) (bytes buffer : List ℕ) → 0 < length bytes → at + length bytes ≤ length buffer
    → written_at at bytes (set buffer at x) ≡ written_at at bytes buffer
written_over at x [] buffer some h = absurd (omega arith)
written_over at x (b ∷ bytes) buffer some h =
    stores at (b ∷ bytes) (set buffer at x) (omega (arith, length-set buffer at x))
    ∙ ap (λ (s : List ℕ). sets s (suc at) bytes) (set-set buffer at x b)
    ∙ sym (stores at (b ∷ bytes) buffer h)

-- what a function that writes tells: the place after the bytes, and the buffer
abbrev pub Wrote : (at : ℕ) (bytes buffer : List ℕ) (next : ℕ) (out : List ℕ) → Type 0
Wrote at bytes buffer next out = (next ≡ at + length bytes) × (out ≡ written_at at bytes buffer)

-- The same where there is room. What is put where another ended is put with it, so a function that calls others has what it tells from them, and
-- shows the room once.
pub record Put (at : ℕ) (bytes buffer : List ℕ) (next : ℕ) (out : List ℕ) : Type 0 where
  pub told : at + length bytes ≤ length buffer → Wrote at bytes buffer next out

pub put : {at next : ℕ} {bytes buffer out : List ℕ} → Wrote at bytes buffer next out → Put at bytes buffer next out
put e = record { told = λ _. e }

pub put_byte : (at b : ℕ) (buffer : List ℕ) → Put at (b ∷ []) buffer (at + 1) (set buffer at b)
put_byte at b buffer = record { told = λ h. (refl, sym (stores at (b ∷ []) buffer h)) }

pub put-over : (x : ℕ) {at next : ℕ} {bytes buffer out : List ℕ} → 0 < length bytes → Put at bytes (set buffer at x) next out → Put at bytes buffer next out
put-over x {at} {next} {bytes} {buffer} {out} some p = record {
  told = λ h. let q = p.told (omega (arith, length-set buffer at x)) in (q.0, q.1 ∙ written_over at x bytes buffer some h);
}

pub put_then : {at next end : ℕ} {a b buffer mid out : List ℕ} → Put at a buffer next mid → Put next b mid end out → Put at (a ++ b) buffer end out
put_then {at} {next} {end} {a} {b} {buffer} {mid} {out} p q = record {
  told = λ h.
      let l : length (a ++ b) ≡ length a + length b = length-append a b in
      let first : Wrote at a buffer next mid = p.told (omega arith) in
      let size : length mid ≡ length buffer = ap length first.1 ∙ length-written at a buffer (omega arith) in
      let second : Wrote next b mid end out = q.told (omega arith) in
      (omega arith, second.1 ∙ ap₂ (λ (n : ℕ) (s : List ℕ). written_at n b s) first.0 first.1 ∙ written-written at a b buffer (omega arith));
}
