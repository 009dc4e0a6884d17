-- The store that the program works in is as large as the limits, so no input is refused for want of room. Assumes nothing.
use mathlib.Core.Path.{◌≡◌, sym, subst}
use mathlib.Core.List.{List}
use Prim.Native.Nat.{ℕ, ◌*◌, ◌≤◌}
use native.Mathlib.Omega.{arith}
use lib.ListN.{length, replicate, length-replicate}
use Rattle.store.specs.Refusals.{refused}
use Rattle.store.specs.Stores.{max_variables, max_clauses, max_literals, max_rows}
use Rattle.session.specs.Session.{session_of}
use Rattle.session.specs.Numbers.{Ample, FromInput}
use Rattle.session.proofs.Numbers.{only-from-input}
use Rattle.program.specs.Program.{fresh_store}

long : (n : ℕ) → n ≤ length {A = ℕ} (replicate n 0)
long n = subst (λ (k : ℕ). n ≤ k) (sym (length-replicate n 0)) (omega arith)

fresh-ample : Ample fresh_store
fresh-ample = record { literals = long max_literals; ends = long max_clauses; keys = long max_clauses; images = long (max_rows * max_variables) }

-- The program prints no 20, 21 or 23.
pub program-refuses : (input : List ℕ) (number place : ℕ) → (session_of fresh_store input).said ≡ refused number place → FromInput number
program-refuses input number place e = only-from-input fresh_store fresh-ample input number place e
