-- `calls::one_row_fewer` meets its contract: 20, 21 and 30 are tried. Assumes nothing.
use Rattle.std.proofs.Common.{refl}
use borrow.Author.Tests.{eq-eqb, ne_eqb}
use Rattle.standing.proofs.StandingLaws.{admitted-is, stands}
use Rattle.calls.specs.Calls.{withdraw_says, withdraw_store}
use Rattle.calls.proofs.one_row_fewer.Goals as goal

pub returns-then-counts-eq0-clause-says : goal.returns-then-counts-eq0-clause-says
unfolding withdraw_says
returns-then-counts-eq0-clause-says c = rw (stands _ c.in_ok-counts.ensures, ← admitted-is _ c.in_ok-counts.ensures, eq-eqb _ 0 c.if-counts-eq0.true) refl

pub returns-then-counts-eq0-clause-leaves : goal.returns-then-counts-eq0-clause-leaves
unfolding withdraw_says withdraw_store
returns-then-counts-eq0-clause-leaves c = rw (stands _ c.in_ok-counts.ensures, ← admitted-is _ c.in_ok-counts.ensures, eq-eqb _ 0 c.if-counts-eq0.true) refl

pub returns-clause-says : goal.returns-clause-says
unfolding withdraw_says
returns-clause-says c = rw (stands _ c.in_ok-counts.ensures, ← admitted-is _ c.in_ok-counts.ensures, ne_eqb _ 0 c.if-counts-eq0.false) refl

pub returns-clause-leaves : goal.returns-clause-leaves
unfolding withdraw_says withdraw_store
returns-clause-leaves c = rw (stands _ c.in_ok-counts.ensures, ← admitted-is _ c.in_ok-counts.ensures, ne_eqb _ 0 c.if-counts-eq0.false) refl
