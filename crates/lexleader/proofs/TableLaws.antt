-- Document 01's table for equal numbers, and clauses that are the same. Assumes nothing.
use mathlib.Core.Path.{◌≡◌, ◌∙◌}
use mathlib.Core.List.{List, []}
use Prim.Native.Nat.{ℕ}
use lib.ListN.{get_or}
use Rattle.lexleader.specs.Clause.{ClauseIs, table_of}
use Rattle.lexleader.specs.declared.table.Clause.{Clause}

-- equal numbers choose the same clause
same_numbers : (f : ℕ → ℕ → ℕ → ℕ → ℕ → ℕ → List ℕ) {e k x y u v e' k' x' y' u' v' : ℕ} → e ≡ e' → k ≡ k' → x ≡ x' → y ≡ y' → u ≡ u' → v ≡ v'
    → f e k x y u v ≡ f e' k' x' y' u' v'
same_numbers f a b c d g h = rw (a, b, c, d, g, h)

pub same-table : (j : ℕ) {e k x y u v e' k' x' y' u' v' : ℕ} → e ≡ e' → k ≡ k' → x ≡ x' → y ≡ y' → u ≡ u' → v ≡ v'
    → get_or (table_of j e (record { x = x; y = y }) (record { x = u; y = v })) k []
    ≡ get_or (table_of j e' (record { x = x'; y = y' }) (record { x = u'; y = v' })) k' []
same-table j a b c d g h = same_numbers (λ e k x y u v. get_or (table_of j e (record { x = x; y = y }) (record { x = u; y = v })) k []) a b c d g h

-- a clause is any list that is the same
pub clause-same : {c : Clause} {a b : List ℕ} → ClauseIs c a → a ≡ b → ClauseIs c b
clause-same h e = record { most = h.most; room = h.room; are = h.are ∙ e }
