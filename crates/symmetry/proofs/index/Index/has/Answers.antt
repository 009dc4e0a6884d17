-- `symmetry::index::Index::has` meets its contract. Assumes nothing.
use Rattle.std.proofs.Common.{◌-◌, ◌≤◌, sym, ◌∙◌, arith}
use Rattle.symmetry.proofs.KeyLaws.{bucket-low, keys-long}
use Rattle.symmetry.proofs.Looking.{look-end, next-within, near_within, first-low, at-first, at-nearer, at-hit, at-next}
use Rattle.symmetry.proofs.index.Index.has.Goals as goal
use Rattle.symmetry.proofs.index.Index.has.Goals.{After-head-head}

pub head-head-requires : goal.head-head-requires
head-head-requires c = omega (arith, c.bucket.ensures, bucket-low c.args.sought.key, c.args.self.indexed.heads-long)

pub returns-then-head-eq0 : goal.returns-then-head-eq0
returns-then-head-eq0 c image sought =
    let a = c.args in
    sym (look-end image _ a.self.keyed.keys.now _ (at-first a.self image a.sought.key (a.sought.known image sought) _ _ c.bucket.ensures c.head-head.ensures) c.if-head-eq0.true)

-- the bucket's first is one of the clauses
low : (c : After-head-head) → c.head-head.result ≤ c.args.self.keyed.clauses.count
low c = first-low c.args.self c.args.sought.key _ _ c.bucket.ensures c.head-head.ensures

pub offset_bounds-keys-head : goal.offset_bounds-keys-head
offset_bounds-keys-head c = omega (arith, low (goal.at.offset_bounds-keys-head c).After-head-head, c.args.self.keyed.clauses.formed.clauses-fit)

pub bounds-keys-head : goal.bounds-keys-head
bounds-keys-head c = omega (arith, low (goal.at.bounds-keys-head c).After-head-head, keys-long c.args.self.keyed)

pub next-requires : goal.next-requires
next-requires c = omega (arith, low (goal.at.next-requires c).After-head-head, c.args.self.indexed.nexts-long)

pub loop-number-init : goal.loop-number-init
loop-number-init c =
    let a = c.args in
    let first = c.head-head.result in
    record {
      low = near_within a.self.keyed.clauses.count a.self.keyed.keys.now a.self.heads.now a.self.nexts.now a.self.indexed first (first - 1) a.sought.key _ _ _
          (omega arith) (low (goal.at.loop-number-init c).After-head-head) c.next.ensures c.nearer-number.ensures;
      looking = λ image sought.
          let own = a.sought.known image sought in
          at-nearer a.self image a.sought.key own first _ _ (at-first a.self image a.sought.key own _ _ c.bucket.ensures c.head-head.ensures) c.if-head-eq0.false c.next.ensures
          c.nearer-number.ensures;
    }

pub is_image_at-requires : goal.is_image_at-requires
is_image_at-requires c = omega (arith, c.loop-number.invariant.low)

pub returns-then-is_image_at : goal.returns-then-is_image_at
returns-then-is_image_at c image sought =
    let i = c.loop-number.invariant in
    sym (at-hit c.args.self image c.loop-number.number (i.looking image sought) (λ z. omega arith) i.low (sym (c.is_image_at.ensures image sought) ∙ c.if-is_image_at.true))

pub next-number-requires : goal.next-number-requires
next-number-requires c = omega (arith, c.loop-number.invariant.low, c.args.self.indexed.nexts-long)

pub loop-number-smaller : goal.loop-number-smaller
loop-number-smaller c =
    let s = c.args.self in
    omega (arith, c.next-number.ensures, next-within s.keyed.clauses.count s.keyed.keys.now s.heads.now s.nexts.now s.indexed c.loop-number.number (c.loop-number.number - 1) (omega arith) c.loop-number.invariant.low)

pub loop-number-preserved : goal.loop-number-preserved
loop-number-preserved c =
    let s = c.args.self in
    let i = c.loop-number.invariant in
    record {
      low = omega (arith, c.next-number.ensures, i.low, next-within s.keyed.clauses.count s.keyed.keys.now s.heads.now s.nexts.now s.indexed c.loop-number.number (c.loop-number.number - 1) (omega arith) i.low);
      looking = λ image sought.
          at-next s image c.loop-number.number (i.looking image sought) (λ z. omega arith) i.low _ (sym (c.is_image_at.ensures image sought) ∙ c.if-is_image_at.false) c.next-number.ensures;
    }

pub returns : goal.returns
returns c image sought = sym (look-end image _ c.args.self.keyed.keys.now c.loop-number.number (c.loop-number.invariant.looking image sought) (omega arith))
