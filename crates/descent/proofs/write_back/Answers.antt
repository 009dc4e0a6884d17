-- `descent::write_back` meets its contract: the writer holds the assignment, and its words are all that are lent. Assumes nothing.
use mathlib.Core.Path.{◌≡◌, ap, ◌∙◌}
use mathlib.Core.List.{List, [], ◌++◌, append-nil}
use Prim.Native.Nat.{ℕ}
use native.Mathlib.Omega.{arith}
use lib.ListN.{length, drop, drop_of_length-le}
use Rattle.packed.specs.Words.{word_count, words_of}
use Rattle.packed.proofs.Writing.{room_for}
use Rattle.valuation.specs.Tables.{bits_in}
use Rattle.valuation.proofs.TableLaws.{length-in}
use Rattle.descent.proofs.write_back.Goals as goal

pub write-w-requires : goal.write-w-requires
write-w-requires c = (c.requires.0, c.requires.1, omega (arith, c.requires.2))

pub finish-requires : goal.finish-requires
unfolding word_count
finish-requires c =
    let size = length-in c.args.n c.args.values.now in
    room_for c.write-w.ensures 0 (omega (arith, size, c.requires.2)) (omega (arith, size, c.requires.0))

pub returns : goal.returns
returns c =
    let bits = bits_in c.args.n c.args.values.now in
    let count : word_count (length bits) ≡ word_count c.args.n = ap word_count (length-in c.args.n c.args.values.now) in
    let none : drop (word_count (length bits)) c.args.a.now ≡ [] = drop_of_length-le c.args.a.now {i = word_count (length bits)} (omega (arith, count, c.requires.2)) in
    c.finish.ensures.buffer bits c.args.a.now c.write-w.ensures ∙ ap (λ (l : List ℕ). words_of bits ++ l) none ∙ append-nil (words_of bits)
