-- `keys::write` meets its contract. Assumes nothing.
use Rattle.std.proofs.Common.{◌≡◌, ◌+◌, [], get_or, sym, ap, ◌∙◌, arith, drop_of_length-le}
use lib.ListN.{length-map}
use lib.Seq.{sets}
use Rattle.lists.proofs.Members.{map_at}
use Rattle.lists.proofs.Steps.{drop-step}
use Rattle.lists.proofs.Writing.{stored, sets-front}
use Rattle.store.specs.Held.{formula_of}
use Rattle.store.proofs.Held.{formula-length}
use Rattle.keys.specs.Keys.{key_of, keys_of}
use Rattle.keys.proofs.MarkLaws.{unmarked, own-places, clause_key}
use Rattle.keys.proofs.write.Goals as goal

pub loop-c-init : goal.loop-c-init
loop-c-init c =
    let a = c.args in
    let formula = formula_of a.clauses in
    let count = formula-length a.clauses in
    record { written = sets-front a.keys.now (keys_of formula) (omega (arith, length-map formula key_of)); below = unmarked }

pub key_at-requires : goal.key_at-requires
key_at-requires c = (omega arith, own-places c.own_places-own.result c.own_places-own.ensures, c.loop-c.invariant.below)

pub loop-c-preserved : goal.loop-c-preserved
loop-c-preserved c =
    let a = c.args in
    let formula = formula_of a.clauses in
    let count = formula-length a.clauses in
    let key = c.key_at.ensures.key ∙ clause_key c.own_places-own.result c.numbers-table.result a.clauses c.loop-c.c c.own_places-own.ensures c.numbers-table.ensures (omega arith) in
    let value : get_or (keys_of formula) c.loop-c.c 0 ≡ c.key_at.result = map_at key_of formula c.loop-c.c [] 0 (omega arith) ∙ sym key in
    let next : c.loop-c.c + 2 ≡ c.loop-c.c + 1 + 1 = omega arith in
    record {
      written = stored c.loop-c.keys c.loop-c.c c.loop-c.invariant.written (drop-step (keys_of formula) c.loop-c.c 0 (omega (arith, length-map formula key_of))) value;
      below = rw next at c.key_at.ensures.below;
    }

pub returns : goal.returns
returns c =
    let a = c.args in
    let formula = formula_of a.clauses in
    let count = formula-length a.clauses in
    let none = drop_of_length-le (keys_of formula) {i = c.loop-c.c} (omega (arith, length-map formula key_of)) in
    sym (c.loop-c.invariant.written ∙ ap (sets c.loop-c.keys c.loop-c.c) none)
