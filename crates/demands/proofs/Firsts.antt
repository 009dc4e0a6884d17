-- The first of a list that fails: there is one or all pass, never two, and a walk from the left finds it. Assumes nothing.
use mathlib.Core.Path.{◌≡◌, refl, sym, ap, ◌∙◌}
use mathlib.Core.List.{List, [], ◌∷◌, ◌++◌, append_assoc, append-nil}
use native.Mathlib.Omega.{arith}
use lib.ListN.{length, length-append}
use Rattle.demands.specs.Reasons.{AllPass, FirstFailing}

-- ---- two elements of one list: x after b, and y after c

data Places {A : Type 0} (b : List A) (x : A) (c : List A) (y : A) : Type 0 where
  same : b ≡ c → x ≡ y → Places b x c y
  earlier : (d : List A) → c ≡ b ++ (x ∷ d) → Places b x c y
  later : (d : List A) → b ≡ c ++ (y ∷ d) → Places b x c y

further : {A : Type 0} {b : List A} {x : A} {c : List A} {y v w : A} → v ≡ w → Places b x c y → Places (v ∷ b) x (w ∷ c) y
further e (same p q) = same (cc) q
further {b} {x} {w} e (earlier d p) = earlier d (cc)
further e (later d p) = later d (cc)

places : {A : Type 0} (b c a d : List A) (x y : A) → b ++ (x ∷ a) ≡ c ++ (y ∷ d) → Places b x c y
places [] [] a d x y e = same refl (cc)
places [] (w ∷ c) a d x y e = earlier c (cc)
places (v ∷ b) [] a d x y e = later b (cc)
places (v ∷ b) (w ∷ c) a d x y e = further (cc) (places b c a d x y (cc))

module _ {A : Type 0} (Passes : List A → A → Type 0) where
  pub none_yet : AllPass Passes []
  none_yet before after it e = absurd (omega (arith, simp length-append at (ap length e)))

  pub one_more : {before : List A} {w : A} → AllPass Passes before → Passes before w → AllPass Passes (before ++ (w ∷ []))
  one_more {before} {w} all h b a it e = by (places before b [] a w it e)
    where
      by : Places before w b it → Passes b it
      by (same p q) = rw (p, q) at h
      by (earlier d p) = absurd (omega (arith, simp length-append at (ap length e), simp length-append at (ap length p)))
      by (later d p) = all b d it p

  pub never_both : {all : List A} → AllPass Passes all → FirstFailing Passes all → ⊥
  never_both p f = f.fails (p f.before f.after f.it f.stands)

  pub one-first : {all : List A} (f g : FirstFailing Passes all) → (f.before ≡ g.before) × (f.it ≡ g.it)
  one-first f g = by (places f.before g.before f.after g.after f.it g.it (sym f.stands ∙ g.stands))
    where
      by : Places f.before f.it g.before g.it → (f.before ≡ g.before) × (f.it ≡ g.it)
      by (same p q) = (p, q)
      by (earlier d p) = absurd (f.fails (g.passed f.before d f.it p))
      by (later d p) = absurd (g.fails (f.passed g.before d g.it p))

  -- ---- a walk that goes on past each element that passes, and answers at the first that does not

  module _ {Answer : Type 0} (walk : List A → List A → Answer) (answer : List A → A → List A → Answer) where
    pub data Turn (before : List A) (it : A) (after : List A) : Type 0 where
      on : Passes before it → walk before (it ∷ after) ≡ walk (before ++ (it ∷ [])) after → Turn before it after
      stop : (Passes before it → ⊥) → walk before (it ∷ after) ≡ answer before it after → Turn before it after

    pub data Walked (all : List A) : Type 0 where
      found : (f : FirstFailing Passes all) → walk [] all ≡ answer f.before f.it f.after → Walked all
      none : AllPass Passes all → walk [] all ≡ walk all [] → Walked all

    module _ (turn : (before : List A) (it : A) (after : List A) → AllPass Passes before → Turn before it after) where
      walked_from : (all before words : List A) → all ≡ before ++ words → AllPass Passes before → walk [] all ≡ walk before words → Walked all
      walked_from all before [] e p q = let whole : all ≡ before = e ∙ append-nil before in none (rw whole p) (q ∙ ap (λ (l : List A). walk l []) (sym whole))
      walked_from all before (it ∷ after) e p q =
          by (turn before it after p) (λ h k. walked_from all (before ++ (it ∷ [])) after (e ∙ sym (append_assoc before (it ∷ []) after)) (one_more p h) (q ∙ k))
        where
          by : Turn before it after → (Passes before it → walk before (it ∷ after) ≡ walk (before ++ (it ∷ [])) after → Walked all) → Walked all
          by (on h k) rest = rest h k
          by (stop h k) rest = found (record { before = before; it = it; after = after; stands = e; passed = p; fails = h }) (q ∙ k)

      pub walked : (all : List A) → Walked all
      walked all = walked_from all [] all refl none_yet refl
