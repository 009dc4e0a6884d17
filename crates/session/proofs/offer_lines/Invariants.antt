-- `session::offer_lines` meets its contract. The invariant: what all value lines come to is what those from `from` on come to, offered to the store as
-- it is now. Assumes nothing.
use mathlib.Core.Path.{◌≡◌}
use Prim.Native.Nat.{◌-◌}
use lib.ListN.{length, take, drop}
use Rattle.dimacs.specs.Lines.{lines_at}
use Rattle.store.specs.Stores.{lent}
use Rattle.standing.specs.Keyed.{with_keys}
use Rattle.session.specs.Session.{offer_all}
use Rattle.session.proofs.offer_lines.Given as goal

abbrev pub invariant-loop-from : goal.invariant-loop-from
invariant-loop-from l =
    let line = take (l.names - l.at) (drop l.at l.input) in
    (offer_all (with_keys (lent l.initial.held l.literals l.ends l.initial.images) l.keys) line (lines_at l.input l.initial.from) ≡ offer_all (with_keys (lent l.held l.literals l.ends l.images) l.keys) line (lines_at l.input l.from))
    × (length l.images ≡ length l.initial.images)

abbrev pub decreases-loop-from : goal.decreases-loop-from
decreases-loop-from l = length l.input - l.from
