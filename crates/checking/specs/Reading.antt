-- What the code reads the values of the plain variables' literals from: a table by code, made once from the words. No promise rests on it. Assumes nothing.
use Rattle.std.specs.Prelude.{◌≡◌, ℕ, Bool, List}
use Rattle.packed.specs.Words.{bits_of}
use Rattle.valuation.specs.Tables.{bits_in, Table}

-- the table is that of the variables 1..n, with the values that the words hold
pub record TableOf (n : ℕ) (values : List Bool) (a : List ℕ) : Type 0 where
  pub table : Table n values
  pub bits : bits_in n values ≡ bits_of n a
