-- What a test of what is lent answers, in the words of `Keyed.antt`: the store, or the refusal. Assumes nothing.
use Rattle.std.specs.Prelude.{Result, Ok, Err}
use Rattle.store.specs.Stores.{Store}
use Rattle.store.specs.Held.{store_of}
use Rattle.store.specs.declared.form.Formed.{Formed}
use Rattle.store.specs.declared.refusal.Refusal.{Refusal}

abbrev pub admitted : Result Formed Refusal → Result Store Refusal
admitted (Ok s) = Ok (store_of s)
admitted (Err r) = Err r
