-- `lexleader::numbered::row_clause` meets its contract: the place of the clause's number has the clause. Assumes nothing.
use mathlib.Core.Path.{◌≡◌, refl, ap, ◌∙◌}
use Prim.Native.Nat.{ℕ, ◌+◌, ◌-◌, ◌/◌}
use native.Mathlib.Omega.{arith}
use lib.ListN.{drop}
use Rattle.lexleader.specs.Rows.{pairs_of}
use Rattle.lexleader.specs.Clause.{pairs_at}
use Rattle.lexleader.proofs.Marked.{marks-length}
use Rattle.lexleader.proofs.Numbers.{clause-auxiliary}
use Rattle.lexleader.proofs.TableLaws.{clause-same}
use Rattle.lexleader.proofs.PlaceLaws.{numbered, number-stands}
use Rattle.lexleader.proofs.numbered.row_clause.Goals as goal

pub pair_at-i-requires : goal.pair_at-i-requires
pair_at-i-requires c = (c.requires.0, c.requires.1, omega arith, (clause-auxiliary c.args.e c.args.row.now c.requires.0 c.requires.3).0)

pub next_pair-next-requires : goal.next_pair-next-requires
next_pair-next-requires c = omega (arith, c.pair_at-i.ensures.0, marks-length _ c.requires.1)

pub overflow_cast-place : goal.overflow_cast-place
overflow_cast-place c = omega (arith, (clause-auxiliary c.args.e c.args.row.now c.requires.0 c.requires.3).1)

pub overflow_add-place : goal.overflow_add-place
overflow_add-place c = omega (arith, (clause-auxiliary c.args.e c.args.row.now c.requires.0 c.requires.3).1)

pub overflow_add-place-2 : goal.overflow_add-place-2
overflow_add-place-2 c = omega (arith, (clause-auxiliary c.args.e c.args.row.now c.requires.0 c.requires.3).1)

pub clause_at-requires : goal.clause_at-requires
clause_at-requires c =
    let row = c.args.row.now in
    let same : drop (c.args.q / 6) (pairs_of row) ≡ pairs_at c.pair_at-i.result row = ap (λ (k : ℕ). drop k (pairs_of row)) {x = c.args.q / 6} {y = c.args.q / 6 + 1 - 1} (omega arith) ∙ c.pair_at-i.ensures.1 in
    record {
      small = c.requires.0;
      stands = number-stands row c.args.e c.args.q c.pair_at-i.result _ refl (omega (arith, (clause-auxiliary c.args.e c.args.row.now c.requires.0 c.requires.3).0)) same c.requires.3 c.pair_at-i.ensures.0 c.pair_at-i.ensures.2 (c.next_pair-next.ensures row c.requires.1) c.requires.2;
      inside = c.pair_at-i.ensures.0;
    }

pub returns : goal.returns
returns c =
    let row = c.args.row.now in
    let same : drop (c.args.q / 6) (pairs_of row) ≡ pairs_at c.pair_at-i.result row = ap (λ (k : ℕ). drop k (pairs_of row)) {x = c.args.q / 6} {y = c.args.q / 6 + 1 - 1} (omega arith) ∙ c.pair_at-i.ensures.1 in
    clause-same c.clause_at.ensures (numbered row c.args.e c.args.q c.pair_at-i.result _ refl (omega (arith, (clause-auxiliary c.args.e c.args.row.now c.requires.0 c.requires.3).0)) same)
