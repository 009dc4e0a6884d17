-- `pages::add_line` meets its contract: a plain clause, one that a row adds, or nothing left. Assumes nothing.
use Rattle.std.proofs.Common.{◌∙◌, rules}
use Rattle.lexleader.proofs.MadeLaws.{plain-length, plain_at}
use Rattle.cursor.proofs.RowLaws.{nothing-added}
use Rattle.cursor.proofs.CursorLaws.{past-plain}
use Rattle.pages.proofs.FillLaws.{plain-short, over}
use Rattle.pages.proofs.add_line.Goals as goal

pub add_plain-requires : goal.add_plain-requires
add_plain-requires c =
    let f = c.args.s.formed in
    (c.if-page-counts.true, c.requires.2, plain-short _ f c.args.page.cursor.plain c.if-page-counts.true)

pub returns-then-page-counts-clause-step : goal.returns-then-page-counts-clause-step
returns-then-page-counts-clause-step c =
    let f = c.args.s.formed in
    c.add_plain.ensures.step _ (plain-length _ f) (plain_at _ f c.args.page.cursor.plain c.if-page-counts.true) c.args.s.rows.images.now c.requires.0

pub returns-then-page-counts-2-clause-step : goal.returns-then-page-counts-2-clause-step
returns-then-page-counts-2-clause-step c = c.add_added.ensures.step _ (plain-length _ c.args.s.formed)

pub returns-clause-step : goal.returns-clause-step
returns-clause-step c =
    let a = c.args in
    over _ a.s.rows.counts a.s.rows.images.now a.page a.out.now
    (past-plain _ a.s.rows.counts (plain-length _ c.args.s.formed) a.s.rows.images.now a.page.cursor (search rules) ∙ nothing-added a.s.rows.counts a.s.rows.images.now a.page.cursor.row (search rules) a.page.cursor.place)
