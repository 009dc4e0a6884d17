-- `store::form::ends_rise` meets its contract. The invariant: the ends rise if those before i do, and those from i on from the last of them. Assumes nothing.
use Rattle.std.proofs.Common.{◌≡◌, ◌-◌, ◌&&◌, get_or, drop}
use Rattle.store.specs.Stores.{rising}
use Rattle.store.proofs.form.ends_rise.Given as goal

abbrev pub invariant-loop-i : goal.invariant-loop-i
invariant-loop-i l = rising 0 l.ends ≡ (l.rise && rising (get_or l.ends (l.i - 1) 0) (drop l.i l.ends))
