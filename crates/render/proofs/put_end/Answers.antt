-- `render::put_end` meets its contract: two stores are the empty clause's line. Assumes nothing.
use Rattle.std.proofs.Common.{[], sym, rules}
use native.Mathlib.Numerals.{towards_suc}
use Rattle.render.specs.Text.{clause_line}
use Rattle.render.proofs.Writing.{stores}
use Rattle.render.proofs.put_end.Goals as goal

pub bounds-out-at : goal.bounds-out-at
unfolding clause_line
bounds-out-at c = search rules

pub bounds-out-feed : goal.bounds-out-feed
unfolding clause_line
bounds-out-feed c = search rules

pub returns : goal.returns
unfolding clause_line
returns c = record {
  next = search rules;
  bytes = simp towards_suc (sym (stores c.args.at (clause_line []) c.args.out.now c.requires));
}
