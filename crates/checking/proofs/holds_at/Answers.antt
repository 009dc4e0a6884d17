-- `checking::holds_at` meets its contract: the clause at the cursor is a plain one, or the one at its place in a row. Assumes nothing.
use mathlib.Core.Path.{◌≡◌, subst, ◌∙◌}
use mathlib.Core.Bool.{true}
use mathlib.Core.List.{List}
use Prim.Native.Nat.{ℕ}
use Rattle.lists.specs.Tests.{all_of}
use Rattle.packed.specs.Words.{bits_of}
use Rattle.packed.specs.Order.{value_of}
use Rattle.store.specs.Literals.{is_literal}
use Rattle.lexleader.specs.Models.{clause_holds}
use Rattle.cursor.proofs.CursorLaws.{clause-stands}
use Rattle.checking.proofs.HeadLaws.{plain-good, plain-first, row-first}
use Rattle.checking.proofs.ReadLaws.{clause-places, read-clause}
use Rattle.checking.proofs.holds_at.Goals as goal

pub stored_holds-requires : goal.stored_holds-requires
stored_holds-requires c = clause-places c.requires.2 _ (plain-good _ c.args.s.formed c.args.at c.if-at-s.true c.clause.ensures)

pub returns-then-at-s : goal.returns-then-at-s
returns-then-at-s c n =
    subst (λ (clause : List ℕ). all_of (is_literal n) clause ≡ true → c.stored_holds.result ≡ clause_holds (value_of (bits_of n c.args.a.now)) clause)
    (plain-first _ c.args.s.formed c.args.at c.if-at-s.true c.clause.ensures)
    (λ within. c.stored_holds.ensures ∙ read-clause c.requires.2 n _ (plain-good _ c.args.s.formed c.args.at c.if-at-s.true c.clause.ensures) within)

pub clause_at-clause-requires : goal.clause_at-clause-requires
clause_at-clause-requires c =
    rw c.row-row.ensures (clause-stands _ _ _ c.requires.0 (c.requires.1 c.if-at-s.false))

pub codes_hold-requires : goal.codes_hold-requires
codes_hold-requires c =
    rw (row-first _ c.args.s.formed c.args.at c.requires.0 c.if-at-s.false c.requires.1 c.row-row.ensures c.clause_at-clause.ensures.are) c.requires.3

pub returns : goal.returns
returns c n =
    subst (λ (clause : List ℕ). all_of (is_literal n) clause ≡ true → c.codes_hold.result ≡ clause_holds (value_of (bits_of n c.args.a.now)) clause)
    (row-first _ c.args.s.formed c.args.at c.requires.0 c.if-at-s.false c.requires.1 c.row-row.ensures c.clause_at-clause.ensures.are) (c.codes_hold.ensures n)
