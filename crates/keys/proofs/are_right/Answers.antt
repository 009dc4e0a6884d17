-- `keys::are_right` meets its contract. Assumes nothing.
use Rattle.std.proofs.Common.{◌≡◌, ◌+◌, sym, refl, ◌∙◌, arith}
use lib.Seq.{length-take-le, get_or-take}
use Rattle.store.specs.Held.{formula_of}
use Rattle.store.proofs.Held.{formula-length}
use Rattle.keys.proofs.MarkLaws.{unmarked, own-places, clause_key}
use Rattle.keys.proofs.RightLaws.{right-short, right-here, wrong-here, right_end}
use Rattle.keys.proofs.are_right.Goals as goal

pub returns-then-keys-clauses : goal.returns-then-keys-clauses
returns-then-keys-clauses c =
    let a = c.args in
    sym (right-short (formula_of a.clauses) a.keys.now (omega (arith, formula-length a.clauses)))

pub loop-c-init : goal.loop-c-init
loop-c-init c = record { rest = refl; below = unmarked }

pub key_at-requires : goal.key_at-requires
key_at-requires c =
    let size = length-take-le c.args.clauses.count c.args.keys.now (omega arith) in
    (omega arith, own-places c.own_places-own.result c.own_places-own.ensures, c.loop-c.invariant.below)

pub returns-then-key-key_at : goal.returns-then-key-key_at
returns-then-key-key_at c =
    let a = c.args in
    let size = length-take-le a.clauses.count a.keys.now (omega arith) in
    let count = formula-length a.clauses in
    let stored = get_or-take a.clauses.count a.keys.now c.loop-c.c 0 (omega arith) in
    let key = c.key_at.ensures.key ∙ clause_key c.own_places-own.result a.table.now a.clauses c.loop-c.c c.own_places-own.ensures c.requires (omega arith) in
    sym (c.loop-c.invariant.rest ∙ wrong-here _ a.keys.now c.loop-c.c (omega arith) (omega arith) (λ e. c.if-key-key_at.true (stored ∙ e ∙ sym key)))

pub loop-c-preserved : goal.loop-c-preserved
loop-c-preserved c =
    let a = c.args in
    let size = length-take-le a.clauses.count a.keys.now (omega arith) in
    let count = formula-length a.clauses in
    let stored = get_or-take a.clauses.count a.keys.now c.loop-c.c 0 (omega arith) in
    let key = c.key_at.ensures.key ∙ clause_key c.own_places-own.result a.table.now a.clauses c.loop-c.c c.own_places-own.ensures c.requires (omega arith) in
    let next : c.loop-c.c + 2 ≡ c.loop-c.c + 1 + 1 = omega arith in
    record {
      rest = c.loop-c.invariant.rest ∙ right-here _ a.keys.now c.loop-c.c (omega arith) (omega arith) (sym stored ∙ c.if-key-key_at.false ∙ key);
      below = rw next at c.key_at.ensures.below;
    }

pub returns : goal.returns
returns c =
    let a = c.args in
    let size = length-take-le a.clauses.count a.keys.now (omega arith) in
    let count = formula-length a.clauses in
    sym (c.loop-c.invariant.rest ∙ right_end _ _ c.loop-c.c (omega arith))
