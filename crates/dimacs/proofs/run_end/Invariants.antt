-- `dimacs::run_end` meets its contract. The invariant: the run from `at` ends where the run from i ends. Assumes nothing.
use Rattle.std.proofs.Common.{◌≡◌, ℕ, Bool, ◌<◌}
use Rattle.dimacs.specs.Words.{run_end}
use Rattle.dimacs.proofs.run_end.Given as goal

abbrev pub invariant-loop-i : goal.invariant-loop-i
invariant-loop-i g l =
    (test : ℕ → Bool) → ((b : ℕ) (r : Bool) → b < 256 → goal.F-post g l.passes b r → r ≡ test b) → run_end test l.text l.at ≡ run_end test l.text l.i
