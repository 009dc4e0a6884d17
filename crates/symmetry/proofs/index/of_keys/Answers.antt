-- `symmetry::index::of_keys` meets its contract. Assumes nothing.
use Rattle.std.proofs.Common.{◌≡◌, ℕ, length, get_or, sym, ap, arith}
use lib.ListN.{length-replicate}
use Rattle.buckets.proofs.Index.{holds-none}
use Rattle.symmetry.specs.Index.{bucket_count, clause_bucket}
use Rattle.symmetry.proofs.KeyLaws.{bucket-low, keys-long}
use Rattle.symmetry.proofs.index.of_keys.Goals as goal

pub loop-c-init : goal.loop-c-init
loop-c-init c = rw c.requires.0 (holds-none _ bucket_count c.args.nexts.now)

pub bounds-keys-c : goal.bounds-keys-c
bounds-keys-c c = omega (arith, keys-long c.args.keyed)

pub put-requires : goal.put-requires
put-requires c =
    let long = ap length c.requires.0 in
    let low = bucket-low (get_or c.args.keyed.keys.now c.loop-c.c 0) in
    (omega (arith, c.bucket.ensures, length-replicate {A = ℕ} bucket_count 0), omega (arith, c.requires.1), omega (arith, c.args.keyed.clauses.formed.clauses-fit))

pub loop-c-preserved : goal.loop-c-preserved
loop-c-preserved c = c.put.ensures (clause_bucket c.args.keyed.keys.now) (sym c.bucket.ensures) c.loop-c.invariant

pub returns : goal.returns
returns c =
    let all : c.loop-c.c ≡ c.args.keyed.clauses.count = omega arith in
    let long = ap length c.requires.0 in
    record { holds = rw all at c.loop-c.invariant; heads-long = omega (arith, length-replicate {A = ℕ} bucket_count 0); nexts-long = omega (arith, c.requires.1) }
