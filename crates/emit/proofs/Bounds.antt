-- The lines of a well-formed store's made formula are short, so that a host knows beforehand what room a line needs (include/symbreak.h). Assumes nothing.
use mathlib.Core.Path.{◌≡◌}
use mathlib.Core.Bool.{true}
use mathlib.Core.List.{List, Memᴰ}
use Prim.Native.Nat.{ℕ, ◌+◌, ◌*◌, ◌≤◌}
use native.Mathlib.Omega.{arith}
use lib.ListN.{length, get_or}
use Rattle.lists.specs.Tests.{all_of}
use Rattle.lists.proofs.Members.{all-at}
use Rattle.lists.proofs.Tests.{all-mem}
use Rattle.store.specs.Literals.{is_literal}
use Rattle.store.specs.Stores.{Store, is_formed}
use Rattle.store.proofs.FormLaws.{literal-high}
use Rattle.lexleader.specs.Store.{made_of, variables_of, clauses_of}
use Rattle.lexleader.proofs.StoreBounds.{variables-most, clauses-most, store-within, clause-most}
use Rattle.render.specs.Text.{clause_line}
use Rattle.render.proofs.LineLaws.{line-within, header-within}
use Rattle.emit.specs.Emit.{header_of, max_header, max_line}

module _ (s : Store) (well : is_formed s ≡ true) where
  -- "Header line: `p cnf N M`"
  pub header-most : length (header_of s) ≤ max_header
  unfolding header_of
  header-most = header-within (variables_of s) (clauses_of s) (omega (arith, variables-most s well)) (omega (arith, clauses-most s well))

  module _ (clause : List ℕ) (m : Memᴰ clause (made_of s)) where
    -- a literal has at most a sign, five digits and the space after it; the other two bytes are the closing 0 and the line feed
    pub line-most : length (clause_line clause) ≤ 7 * length clause + 2
    line-most =
        let literals : all_of (is_literal (variables_of s)) clause ≡ true = all-mem (all_of (is_literal (variables_of s))) m (store-within s well) in
        line-within clause (λ i h. omega (arith, literal-high (variables_of s) (get_or clause i 0) (all-at (is_literal (variables_of s)) clause 0 literals i h), variables-most s well))

    -- so a buffer of SYMBREAK_MAX_LINE bytes has room for every line
    pub line-longest : length (clause_line clause) ≤ max_line
    line-longest = omega (arith, line-most, clause-most s well clause m)
