-- Values written into lent words one after another, the highest bit of each word first (document 01, "Assignments, filling in and descent"). Assumes nothing.
use Rattle.std.specs.Prelude.{◌≡◌, ℕ, ◌+◌, ◌*◌, ◌/◌, ◌%◌, ◌≤◌, ◌<◌, Bool, false, List, ◌++◌, length, get_or, drop}
use Rattle.packed.specs.Words.{max_words, binary}
use Rattle.packed.specs.declared.writer.Writer.{Writer}

-- the values that a writer has taken: whole words lie in the buffer, the begun one in the writer, and the rest of the buffer is as it was
pub record WriterHolds (values : List Bool) (w : Writer) (old out : List ℕ) : Type 0 where
  pub count : w.taken ≡ length values
  pub begun : w.word ≡ binary (w.taken % 64) (λ p. get_or values (w.taken / 64 * 64 + p) false)
  pub size : length out ≡ length old
  pub whole : (i : ℕ) → i < w.taken / 64 → get_or out i 0 ≡ binary 64 (λ p. get_or values (i * 64 + p) false)
  pub past : drop (w.taken / 64) out ≡ drop (w.taken / 64) old

-- a writer that holds some values, and has room for more: no more than the longest assignment has, so that a count of them never wraps
pub record WriterRoom (w : Writer) (more : ℕ) (out : List ℕ) : Type 0 where
  pub values : List Bool
  pub old : List ℕ
  pub holds : WriterHolds values w old out
  pub fits : w.taken + more ≤ 64 * length out
  pub bounded : w.taken + more ≤ 64 * max_words

-- from a writer and its buffer to another: behind whatever values the first holds, the second holds more
abbrev pub Appends : Writer → List Bool → List ℕ → Writer → List ℕ → Type 0
Appends w more out v after = (values : List Bool) (old : List ℕ) → WriterHolds values w old out → WriterHolds (values ++ more) v old after
