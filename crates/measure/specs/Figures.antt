-- The figures of a made formula (document 02, CR 10): "From an open store, give the made formula's variables, clauses, literals (closing zeros not counted) and bytes
-- of text without writing a line. Each equals what the writing then gives, for every store, header included." Assumes nothing.
use Rattle.std.specs.Prelude.{ℕ, ◌+◌, ◌-◌, ◌*◌, length}
use Rattle.lists.specs.Sums.{sum_of}
use Rattle.store.specs.Stores.{Store, max_variables, max_literals, max_rows}
use Rattle.lexleader.specs.Bounds.{max_made_clauses}
use Rattle.lexleader.specs.Store.{made_of, variables_of, clauses_of}
use Rattle.emit.specs.Emit.{text_of, max_header}
use Rattle.measure.specs.declared.Figures.{Figures}

unfoldable pub figures_of : Store → Figures
figures_of s = record { variables = variables_of s; clauses = clauses_of s; literals = sum_of length (made_of s); bytes = length (text_of s) }

-- at the limits of the store: 633,536 literals, 17 in the clauses of a row's first auxiliary and 19 in those of each other one; and by the paper's bound on bytes 4,835,411
abbrev pub max_made_literals : ℕ
max_made_literals = max_literals + max_rows * (19 * (max_variables - 1) - 2)

abbrev pub max_made_bytes : ℕ
max_made_bytes = max_header + 7 * max_made_literals + 2 * max_made_clauses
