-- The figures of a well-formed store's made formula, by its plain clauses and what its rows add. Assumes nothing.
use mathlib.Core.Path.{◌≡◌, refl, sym, ap, ap₂, ◌∙◌}
use mathlib.Core.Bool.{true}
use Prim.Native.Nat.{ℕ, ◌+◌, ◌*◌, ◌^◌, ◌≤◌, ◌<◌}
use native.Mathlib.Omega.{arith}
use lib.ListN.{length, take, length-append}
use Rattle.lists.specs.Sums.{sum_of}
use Rattle.lists.proofs.Sums.{sum-append}
use Rattle.store.specs.Stores.{Store, max_clauses, max_literals, rows_of, plain_of, held_rows, is_formed}
use Rattle.store.proofs.Demands.{used, rest_of}
use Rattle.store.proofs.Formed.{formed-rows}
use Rattle.lexleader.specs.Made.{made}
use Rattle.lexleader.specs.Store.{made_of, variables_of, clauses_of}
use Rattle.lexleader.proofs.MadeLaws.{plain-length, added_of, clauses-are}
use Rattle.render.specs.Text.{header_line}
use Rattle.render.proofs.DigitLaws.{digits-most}
use Rattle.render.proofs.LineLaws.{length-header}
use Rattle.emit.specs.Emit.{header_of, lines_of, text_of}
use Rattle.measure.specs.declared.Figures.{Figures}
use Rattle.measure.specs.Figures.{figures_of}
use Rattle.measure.specs.Shares.{word_bytes, added_figures}
use Rattle.measure.proofs.Words.{lines-words}
use Rattle.measure.proofs.Plain.{plain-literals, plain-words}
use Rattle.measure.proofs.Rows.{lines-append, added-fit}

-- figures by their parts
figures-ext : {v v' c c' l l' b b' : ℕ} → v ≡ v' → c ≡ c' → l ≡ l' → b ≡ b'
    → ◌≡◌ {A = Figures} (record { variables = v; clauses = c; literals = l; bytes = b }) (record { variables = v'; clauses = c'; literals = l'; bytes = b' })
figures-ext v c l b = rw (v, c, l, b)

-- a header has two numbers of 64 bits
pub header-short : (variables clauses : ℕ) → length (header_line variables clauses) ≤ 48
header-short variables clauses = omega (arith, length-header variables clauses, digits-most variables, digits-most clauses)

module _ (s : Store) (well : is_formed s ≡ true) where
  abbrev m : ℕ
  m = s.counts.clauses

  -- what the rows add, and the bytes of the plain clauses' literals
  abbrev rows_add : Figures
  rows_add = added_figures s.counts.variables (rows_of s.counts.variables s.counts.rows s.images)

  abbrev words : ℕ
  words = sum_of word_bytes (take (used s) s.literals)

  -- none of the parts is large
  pub parts-small : {added : Figures} {u : ℕ} → added ≡ rows_add → u ≡ used s
      → (m ≤ max_clauses) × (u ≤ max_literals) × (added.clauses < 2 ^ 32) × (added.literals < 2 ^ 32) × (added.bytes < 2 ^ 32)
  parts-small e is =
      let r = rest_of s well in
      let fit = added-fit s.counts.variables s.counts.rows s.images (formed-rows s well) in
      (r.clauses-fit, omega (arith, is, r.literals-fit), rw e fit.0, rw e fit.1, rw e fit.2)

  total-variables : rows_add.variables ≡ variables_of s
  unfolding variables_of held_rows
  total-variables = refl

  total-clauses : m + rows_add.clauses ≡ clauses_of s
  unfolding held_rows
  total-clauses = sym (clauses-are s well)

  total-literals : used s + rows_add.literals ≡ sum_of length (made_of s)
  unfolding made_of made held_rows
  total-literals = omega (arith, sum-append length (plain_of s) (added_of s well), plain-literals s well)

  total-lines : words + 2 * m + rows_add.bytes ≡ length (lines_of (made_of s))
  unfolding made_of made held_rows
  total-lines =
      omega (arith, lines-append (plain_of s) (added_of s well), lines-words (plain_of s), plain-words s well, plain-length s well)

  header_is : length (header_line (variables_of s) (clauses_of s)) ≡ length (header_of s)
  unfolding header_of
  header_is = refl

  text-length : length (text_of s) ≡ length (header_of s) + length (lines_of (made_of s))
  unfolding text_of
  text-length = length-append (header_of s) (lines_of (made_of s))

  -- u literals are in use, of w bytes, and the header has h
  pub figures-are : {added : Figures} {u w h : ℕ} → added ≡ rows_add → u ≡ used s → w ≡ sum_of word_bytes (take u s.literals)
      → h ≡ length (header_line added.variables (m + added.clauses))
      → record { variables = added.variables; clauses = m + added.clauses; literals = u + added.literals; bytes = h + w + 2 * m + added.bytes } ≡ figures_of s
  unfolding figures_of
  figures-are {added} {u} {w} {h} e is-u is-w is-h =
      let v : added.variables ≡ variables_of s = ap (λ (f : Figures). f.variables) e ∙ total-variables in
      let c : m + added.clauses ≡ clauses_of s = ap (λ (f : Figures). m + f.clauses) e ∙ total-clauses in
      let l : u + added.literals ≡ sum_of length (made_of s) = omega (arith, is-u, ap (λ (f : Figures). f.literals) e, total-literals) in
      let header : h ≡ length (header_of s) = is-h ∙ ap₂ (λ (a b : ℕ). length (header_line a b)) v c ∙ header_is in
      let all : w ≡ words = is-w ∙ ap (λ (k : ℕ). sum_of word_bytes (take k s.literals)) is-u in
      figures-ext v c l (omega (arith, header, all, total-lines, ap (λ (f : Figures). f.bytes) e, text-length))
