-- `permutation::state` meets its contract: a fault of the names or of the values is refused, and where there is none the row is that of the listed
-- names. Assumes nothing.
use Rattle.std.proofs.Common.{◌≡◌, Result, Err, rules}
use Rattle.dimacs.specs.Words.{words_at}
use Rattle.store.specs.declared.refusal.Refusal.{Refusal}
use Rattle.permutation.specs.Lines.{not_number}
use Rattle.permutation.specs.Stated.{or_else}
use Rattle.permutation.specs.Names.{Listed}
use Rattle.permutation.proofs.StateLaws.{names-refused, values-refused, values-stated, row-stated}
use Rattle.permutation.proofs.state.Goals as goal
use Rattle.permutation.proofs.state.Goals.{In-Ok}

pub returns-in-Err-clause-answer : goal.returns-in-Err-clause-answer
returns-in-Err-clause-answer c =
    let told : ◌≡◌ {A = Result (Unit {0}) Refusal} (Err c.map_or.result) (or_else (not_number (words_at c.args.names.now 0)) Refusal.NameNotNumber (Err (Refusal.BadName c.in-Err.place))) = search rules in
    names-refused _ _ _ _ _ (rw c.in-Err.is at c.list_names.ensures) told

listed : (c : In-Ok) → Listed c.args.n c.args.names.now c.list_names.new.marks c.list_names.new.order c.in-Ok.count
listed c = rw c.in-Ok.is at c.list_names.ensures

pub returns-in-Some-clause-answer : goal.returns-in-Some-clause-answer
returns-in-Some-clause-answer c =
    let told : ◌≡◌ {A = Result (Unit {0}) Refusal} (Err c.map_or-in-Some.result) (or_else (not_number (words_at c.args.values.now 0)) Refusal.ValueNotNumber (Err (Refusal.BadValue c.in-Some.place))) = search rules in
    values-refused _ _ _ (listed (goal.at.returns-in-Some-clause-answer c).In-Ok) c.place_values.ensures.answer _ _ c.in-Some.is told

pub returns-in-None : goal.returns-in-None
returns-in-None c =
    let l = listed (goal.at.returns-in-None c).In-Ok in
    record {
      answer = values-stated _ _ _ l c.place_values.ensures.answer c.in-None.is;
      row = λ _. row-stated _ _ _ l _ _ _ c.identity.ensures (c.place_values.ensures.row c.in-None.is);
    }
