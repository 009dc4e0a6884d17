-- `symmetry::keyed::KeyedClauses::is_image_at` meets its contract: clauses with different keys are different, and the others are compared in full. Assumes nothing.
use Rattle.std.proofs.Common.{sym, ap, ◌∙◌, arith}
use Rattle.store.proofs.Held.{its-literals}
use Rattle.keys.specs.Keys.{key_of}
use Rattle.symmetry.specs.Sets.{same_set}
use Rattle.symmetry.proofs.KeyLaws.{other_keys, keys-long, stored-key}
use Rattle.symmetry.proofs.keyed.KeyedClauses.is_image_at.Goals as goal

pub bounds-self-other : goal.bounds-self-other
bounds-self-other c = omega (arith, keys-long c.args.self, c.requires)

pub returns-then-self-other : goal.returns-then-self-other
returns-then-self-other c image sought =
    sym (other_keys image _ (λ e. omega (arith, stored-key c.args.self c.args.other c.requires ∙ e ∙ c.args.sought.known image sought, c.if-self-other.true)))

pub is_image-requires : goal.is_image-requires
is_image-requires c =
    let a = c.args in
    (ap key_of c.clause.ensures ∙ sym (stored-key a.self a.other c.requires) ∙ c.if-self-other.false, rw c.clause.ensures (its-literals a.self.clauses a.other c.requires))

pub returns : goal.returns
returns c image sought = c.is_image.ensures image sought ∙ ap (same_set image) c.clause.ensures
