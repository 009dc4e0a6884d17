-- `valuation::tabulate` meets its contract. Assumes nothing.
use mathlib.Core.Path.{◌∙◌}
use native.Mathlib.Omega.{arith}
use lib.ListN.{length-set}
use Rattle.packed.proofs.Bits.{length-bits, value-is}
use Rattle.valuation.proofs.TableLaws.{begun_more, begun-bits, begun-table}
use Rattle.valuation.proofs.tabulate.Goals as goal

pub loop-i-preserved : goal.loop-i-preserved
loop-i-preserved c =
    let is = c.value-value.ensures ∙ value-is c.args.n c.args.a.now c.loop-i.i (omega arith) (omega arith) in
    begun_more _ _ _ c.loop-i.invariant (omega arith) _ is

pub returns-clause-bits : goal.returns-clause-bits
returns-clause-bits c = begun-bits _ _ _ _ (length-bits _ _) (omega arith) c.loop-i.invariant

pub returns-2 : goal.returns-2
returns-2 c =
    let is = c.value-value.ensures ∙ value-is c.args.n c.args.a.now c.loop-i.i (omega arith) (omega arith) in
    let all = begun_more _ _ _ c.loop-i.invariant (omega arith) _ is in
    record {
      table = begun-table _ _ _ _ (length-bits _ _) (omega arith) all (simp length-set (omega arith));
      bits = begun-bits _ _ _ _ (length-bits _ _) (omega arith) all;
    }
