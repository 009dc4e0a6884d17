-- The problem line of a text, its limits, and where it ends. Assumes nothing.
use mathlib.Core.Path.{◌≡◌, refl}
use mathlib.Core.Bool.{Bool, true, false, cond, ◌&&◌}
use mathlib.Core.List.{List}
use mathlib.Core.Logic.{◌⊎◌, inl, inr}
use Prim.Native.Nat.{ℕ, ◌-◌, ◌≤◌, ◌<◌}
use native.Mathlib.Omega.{arith}
use borrow.Author.Tests.{le-leb, lt-leb, leb-true}
use lib.ListN.{length, take, drop}
use lib.Dec.{leb}
use Rattle.std.proofs.Common.{Option, Some, None, Ok, Err}
use Rattle.lists.proofs.Cases.{never, and_l, and_r, lt-or-le}
use Rattle.dimacs.specs.Words.{run, run_end}
use Rattle.dimacs.specs.Lines.{is_line_byte, lines_at}
use Rattle.dimacs.proofs.Runs.{run-part}
use Rattle.dimacs.proofs.LineLaws.{no_line, line-here}
use Rattle.comments.specs.Comments.{after_comments, words_past, Between}
use Rattle.comments.proofs.RunLaws.{run-ended}
use Rattle.comments.proofs.CommentLaws.{lines_from}
use Rattle.comments.proofs.WordLaws.{past-line}
use Rattle.comments.proofs.Walk.{line-between}
use Rattle.store.specs.Stores.{max_variables, max_clauses}
use Rattle.store.specs.declared.refusal.Refusal.{Refusal}
use Rattle.opening.specs.Problem.{sizes_of, within_limits, problem_in, problem_of}
use Rattle.opening.specs.Opening.{words_after}
use Rattle.opening.specs.declared.Sizes.{Sizes}
use Rattle.opening.specs.declared.Problem.{Problem}

-- ---- the problem line

module _ (text : List ℕ) (start : ℕ) (found : lines_at text start ≡ after_comments (lines_at text 0)) where
  pub problem-none : length text ≤ start → problem_of text ≡ Err (Refusal.NoProblemLine (length text))
  unfolding problem_of problem_in
  problem-none h = rw (← found, no_line text start h)

  pub problem-here : start < length text → (end : ℕ) → end ≡ run_end is_line_byte text start
      → problem_of text ≡ within_limits (sizes_of (take (end - start) (drop start text))) start end
  unfolding problem_of problem_in
  problem-here h end e = rw (e, run-part is_line_byte text start, ← found, line-here text start h)

-- ---- its limits

module _ (sizes : Sizes) (place end : ℕ) where
  pub many-variables : max_variables < sizes.variables → within_limits (Some sizes) place end ≡ Err (Refusal.SizeOverLimit place)
  many-variables h = rw (lt-leb sizes.variables max_variables h)

  pub many-clauses : sizes.variables ≤ max_variables → max_clauses < sizes.clauses → within_limits (Some sizes) place end ≡ Err (Refusal.SizeOverLimit place)
  many-clauses h k = rw (le-leb sizes.variables max_variables h, lt-leb sizes.clauses max_clauses k)

  pub within : sizes.variables ≤ max_variables → sizes.clauses ≤ max_clauses → within_limits (Some sizes) place end ≡ Ok (record { sizes = sizes; end = end })
  within h k = rw (le-leb sizes.variables max_variables h, le-leb sizes.clauses max_clauses k)

-- ---- a problem line: it is within its limits, and the words past its end are those of the lines after it

pub record Limits (text : List ℕ) (p : Problem) : Type 0 where
  pub variables : p.sizes.variables ≤ max_variables
  pub clauses : p.sizes.clauses ≤ max_clauses
  pub between : Between text p.end
  pub body : words_past text p.end ≡ words_after (Ok p) text

pub line-limits : (text : List ℕ) (p : Problem) → problem_of text ≡ Ok p → Limits text p
unfolding problem_of problem_in
line-limits text p e = by (lines_from text).0 (lines_from text).1 (lt-or-le (lines_from text).0 (length text))
  where
    limits : (start : ℕ) → start < length text → (s : Option Sizes) → within_limits s start (run_end is_line_byte text start) ≡ Ok p → Limits text p
    limits start h None q = never (cc)
    limits start h (Some s) q = go (leb s.variables max_variables && leb s.clauses max_clauses) refl q
      where
        go : (t : Bool) → (leb s.variables max_variables && leb s.clauses max_clauses) ≡ t
            → cond t (Ok (record { sizes = s; end = run_end is_line_byte text start })) (Err (Refusal.SizeOverLimit start)) ≡ Ok p → Limits text p
        go false k q = never (cc)
        go true k q =
            let same : ◌≡◌ {A = Problem} (record { sizes = s; end = run_end is_line_byte text start }) p = cc in
            rw (← same) (record {
              variables = leb-true s.variables max_variables (and_l (leb s.variables max_variables) (leb s.clauses max_clauses) k);
              clauses = leb-true s.clauses max_clauses (and_r (leb s.variables max_variables) (leb s.clauses max_clauses) k);
              between = line-between text start (omega arith);
              body = past-line text (run_end is_line_byte text start) (run-ended is_line_byte text start);
            })

    by : (start : ℕ) → after_comments (lines_at text 0) ≡ lines_at text start → (start < length text) ⊎ (length text ≤ start) → Limits text p
    by start from (inl h) = limits start h (sizes_of (run is_line_byte (drop start text))) (rw (from, line-here text start h) at e)
    by start from (inr h) = never (cc (rw (from, no_line text start h) at e))
