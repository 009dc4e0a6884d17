-- `opening::fill` meets its contract. Each turn reads a number and stores it, so that what is still to be stored, stored from where the locals
-- say, stays the answer; and the scan of what is left is still done, which bounds each store. Assumes nothing.
use Rattle.store.specs.Stores.{max_variables}
use mathlib.Core.Path.{◌≡◌}
use Prim.Native.Nat.{ℕ, ◌≤◌}
use mathlib.Core.List.{List}
use lib.Seq.{sets}
use Rattle.comments.specs.Comments.{words_past, Between}
use Rattle.store.specs.Stores.{max_literals}
use Rattle.opening.specs.Clauses.{scan_from, literals_in, ends_from}
use Rattle.lists.specs.Writing.{overwritten}
use Rattle.std.proofs.Common.{Ok}
use Prim.Native.Nat.{◌-◌}
use lib.ListN.{length}
use Rattle.opening.proofs.fill.Given as goal

-- what stays: the words open as n and m, with `total` literals, and there is room
pub record Judged (literals₀ ends₀ : List ℕ) : Type 0 where
  pub n : ℕ
  pub m : ℕ
  pub total : ℕ
  pub small : n ≤ max_variables
  pub literals_room : total ≤ length literals₀
  pub ends-room : m ≤ length ends₀

pub record Inv (text : List ℕ) (start : ℕ) (literals₀ ends₀ literals ends : List ℕ) (at closed used : ℕ) : Type 0 where
  pub judged : Judged literals₀ ends₀
  pub between : Between text at
  pub used-within : used ≤ max_literals
  pub literals-length : length literals ≡ length literals₀
  pub ends-length : length ends ≡ length ends₀
  pub done : scan_from (length text) judged.n judged.m closed used (words_past text at) ≡ Ok judged.total
  pub codes : overwritten (literals_in (words_past text start)) literals₀ ≡ sets literals used (literals_in (words_past text at))
  pub clauses : overwritten (ends_from 0 (words_past text start)) ends₀ ≡ sets ends closed (ends_from used (words_past text at))

abbrev pub invariant-loop-number : goal.invariant-loop-number
invariant-loop-number l = Inv l.text l.start l.initial.literals l.initial.ends l.literals l.ends l.at l.closed l.used

abbrev pub decreases-loop-number : goal.decreases-loop-number
decreases-loop-number l = length l.text - l.at
