-- Values appended one list after another: those taken and those left make up all of them. Assumes nothing.
use mathlib.Core.Path.{◌≡◌, refl, sym, ap, ◌∙◌}
use mathlib.Core.Bool.{Bool}
use mathlib.Core.List.{List, [], ◌++◌, append-nil, append_assoc}
use Prim.Native.Nat.{ℕ, ◌+◌, ◌≤◌}
use native.Mathlib.Omega.{arith}
use lib.ListN.{length, length-append}
use Rattle.packed.specs.declared.writer.Writer.{Writer}
use Rattle.packed.specs.Writing.{WriterHolds, WriterRoom, Appends}

-- from a writer and its buffer to another: of all values some are taken, and the rest are left
pub record WriterRun (w : Writer) (out : List ℕ) (all rest : List Bool) (v : Writer) (after : List ℕ) : Type 0 where
  pub done : List Bool
  pub so : all ≡ done ++ rest
  pub held : Appends w done out v after

pub run-start : (w : Writer) (out : List ℕ) (all : List Bool) → WriterRun w out all all w out
run-start w out all = record { done = []; so = refl; held = λ values old h. rw (append-nil values) h }

module _ {w : Writer} {out : List ℕ} {all : List Bool} {v : Writer} {after : List ℕ} where
  pub run_more : {some rest : List Bool} {u : Writer} {last : List ℕ} → WriterRun w out all (some ++ rest) v after → Appends v some after u last
      → WriterRun w out all rest u last
  run_more {some} {rest} r f = record {
    done = r.done ++ some;
    so = r.so ∙ sym (append_assoc r.done some rest);
    held = λ values old h. rw (← append_assoc values r.done some) (f (values ++ r.done) old (r.held values old h));
  }

  pub run_end : WriterRun w out all [] v after → Appends w all out v after
  run_end r = rw (r.so, append-nil r.done) r.held

  -- room for all values is room for those that are left
  module _ {rest : List Bool} {k : ℕ} (room : WriterRoom w k out) (r : WriterRun w out all rest v after) where
    ran : WriterHolds (room.values ++ r.done) v room.old after
    ran = r.held room.values room.old room.holds

    pub run-size : length after ≡ length out
    run-size = ran.size ∙ sym room.holds.size

    pub run_room : k ≡ length all → (more : ℕ) → more ≤ length rest → WriterRoom v more after
    run_room size more h =
        let last : v.taken + length rest ≡ w.taken + length all =
        omega (arith, ran.count, room.holds.count, length-append room.values r.done, ap length r.so, length-append r.done rest) in
        record {
          values = room.values ++ r.done;
          old = room.old;
          holds = ran;
          fits = omega (arith, room.fits, run-size);
          bounded = omega (arith, room.bounded);
        }

-- the last of them
pub run-last : {w : Writer} {out : List ℕ} {all some : List Bool} {v u : Writer} {after last : List ℕ}
    → WriterRun w out all some v after → Appends v some after u last → Appends w all out u last
run-last {some = some} r f = run_end (run_more (rw (append-nil some) r) f)
