-- A text that opens leaves a well formed store whose plain formula is the text's. Assumes nothing.
use mathlib.Core.Path.{◌≡◌, refl, ◌∙◌}
use mathlib.Core.Bool.{true}
use mathlib.Core.List.{List, ◌++◌}
use Prim.Native.Nat.{ℕ}
use native.Mathlib.Omega.{arith}
use lib.ListN.{length, take, drop, length-append}
use lib.Seq.{take_at}
use Rattle.std.proofs.Common.{Ok}
use Rattle.lists.specs.Tests.{all_of}
use Rattle.store.specs.Stores.{Store, lent, literal_count, rows_of, plain_of, is_formed, held_rows, FormedFormula, max_variables}
use Rattle.store.proofs.Demands.{OtherDemands, rows-decide}
use Rattle.store.proofs.Formed.{formed}
use Rattle.store.proofs.Within.{formed-formula, formula-within}
use Rattle.opening.specs.Clauses.{literals_in, ends_from}
use Rattle.opening.specs.Opening.{body_of, opened_by, written, formula_of}
use Rattle.opening.specs.declared.Sizes.{Sizes}
use Rattle.opening.proofs.ProblemLaws.{line-limits}
use Rattle.opening.proofs.DoneLaws.{Counted, counted}
use Rattle.opening.proofs.OpeningLaws.{Opens, opens}
use Rattle.opening.proofs.CutLaws.{cut-clauses, last_end}

-- the store after a text was opened with these sizes: no rows, and the slices as `open` leaves them
abbrev pub opened_store : (text literals ends images : List ℕ) (sizes : Sizes) → Store
opened_store text literals ends images sizes =
    lent (record { variables = sizes.variables; clauses = sizes.clauses; rows = 0; is_open = true })
    (written (Ok sizes) (literals_in (body_of text)) literals)
    (written (Ok sizes) (ends_from 0 (body_of text)) ends)
    images

module _ (text literals ends keys images : List ℕ) (sizes : Sizes) (e : opened_by text (length literals) (length ends) (length keys) ≡ Ok sizes) where
  facts : Opens text (length literals) (length ends) (length keys) sizes
  facts = opens text (length literals) (length ends) (length keys) sizes e

  all : Counted sizes.variables sizes.clauses facts.fits.count 0 0 (body_of text)
  all = counted (length text) sizes.variables sizes.clauses facts.fits.count (body_of text) 0 0 facts.fits.done

  abbrev codes : List ℕ
  codes = literals_in (body_of text)

  abbrev clauses : List ℕ
  clauses = ends_from 0 (body_of text)

  codes-count : length codes ≡ facts.fits.count
  codes-count = omega (arith, all.literals)

  clauses-count : length clauses ≡ sizes.clauses
  clauses-count = omega (arith, all.ends)

  front_ends : take sizes.clauses (clauses ++ drop (length clauses) ends) ≡ clauses
  front_ends = take_at clauses (drop (length clauses) ends) sizes.clauses clauses-count

  used-is : literal_count sizes.clauses (clauses ++ drop (length clauses) ends) ≡ facts.fits.count
  used-is =
      rw (← clauses-count) (last_end clauses (drop (length clauses) ends)) ∙ all.last 0 (λ z. refl)

  rest : OtherDemands (opened_store text literals ends images sizes)
  rest = record {
    variables-fit = (line-limits text (record { sizes = sizes; end = facts.start }) facts.problem).variables;
    clauses-fit = (line-limits text (record { sizes = sizes; end = facts.start }) facts.problem).clauses;
    rows_fit = omega arith;
    ends-long = omega (arith, length-append clauses (drop (length clauses) ends), clauses-count);
    ends-rise = rw front_ends (all.rise 0 (omega arith));
    literals-fit = rw used-is (all.total-within (omega arith));
    literals-long = rw used-is (omega (arith, length-append codes (drop (length codes) literals), codes-count));
    literals-good = rw (used-is, take_at codes (drop (length codes) literals) facts.fits.count codes-count) all.good;
    images-long = omega arith;
  }

  pub opened-formed : is_formed (opened_store text literals ends images sizes) ≡ true
  unfolding all_of rows_of held_rows
  opened-formed = rows-decide (opened_store text literals ends images sizes) rest

  pub opened-plain : plain_of (opened_store text literals ends images sizes) ≡ formula_of text
  unfolding plain_of formula_of
  opened-plain = rw front_ends (cut-clauses (body_of text) (codes ++ drop (length codes) literals) (drop (length codes) literals) 0 0 (omega arith) refl)

  -- its clauses with their literals, of as many variables as there may be
  pub opened-formula : FormedFormula max_variables sizes.clauses (opened_store text literals ends images sizes).literals (opened_store text literals ends images sizes).ends
  opened-formula =
      let s = opened_store text literals ends images sizes in
      let f = formed s opened-formed in
      formula-within sizes.variables max_variables sizes.clauses s.literals s.ends f.variables-fit (formed-formula s f)
