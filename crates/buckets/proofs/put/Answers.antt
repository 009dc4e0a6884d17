-- `buckets::put` meets its contract: two stores, and what they make of an index. Assumes nothing.
use Rattle.buckets.proofs.Index.{holds_more}
use Rattle.buckets.proofs.put.Goals as goal

pub returns : goal.returns
returns c bucket_of e r =
    let a = c.args in
    holds_more bucket_of a.c a.bucket a.heads.now a.nexts.now c.requires.0 c.requires.1 e r
