-- Document 02, CR 9: `ShorterClauses` holds. Assumes nothing.
use mathlib.Core.Path.{sym, ◌∙◌}
use native.Mathlib.Omega.{arith}
use Rattle.store.proofs.Demands.{rows-of}
use Rattle.store.proofs.Formed.{row_of, formed}
use Rattle.store.proofs.Identity.{moves-nothing-iff}
use Rattle.store.proofs.Within.{literals-within}
use Rattle.cycles.proofs.Largest.{same-cycle, largest-of}
use Rattle.cycles.proofs.Once.{cycle-once, cycle-closed}
use Rattle.lexleader.specs.Made.{made_variables}
use Rattle.lexleader.specs.Longer.{variables_by}
use Rattle.lexleader.proofs.Moved.{along-moved, deciding-moved}
use Rattle.lexleader.proofs.Remaining.{along-pairs, deciding-pairs, stays-none, none_stays, auxiliaries-fewer}
use Rattle.lexleader.proofs.Theorems.{kept-longer}
use Rattle.demands.specs.ShorterClauses.{ShorterClauses}

pub shorter-clauses : ShorterClauses
unfolding made_variables variables_by
shorter-clauses = record {
  once = λ n row e i low high. let r = row_of n row e in (cycle-once n row r i low high, cycle-closed n row r i low high);
  cycles = λ n row e i z low high. same-cycle n row (row_of n row e) i low high z;
  largest = λ n row e i low high.
      let t = largest-of n row (row_of n row e) i low high in
      (t.0, record { member = t.1; largest = t.2; only = t.3 });
  none = λ n row e.
      let r = row_of n row e in
      let idle = moves-nothing-iff n row r.size in
      (λ h. idle.0 (none_stays n row r h), λ h. stays-none row (idle.1 h));
  fewer = λ n rows. omega (arith, auxiliaries-fewer rows);
  decides = λ n row e a size.
      let r = row_of n row e in
      let long = size ∙ sym r.size in
      (along-pairs n row r a long ∙ sym (along-moved row a long), deciding-pairs n row r a long ∙ sym (deciding-moved row a long));
  kept = λ s well. kept-longer s.counts.variables _ _ (literals-within s (formed s well)) (rows-of s well);
}
