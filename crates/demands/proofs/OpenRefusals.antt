-- Opening refuses by its list of reasons: the lines up to the problem line, then the words after it from the left. Assumes nothing.
use Rattle.std.proofs.Common.{Option, Result, Some, None, Ok, Err}
use mathlib.Core.Path.{◌≡◌, refl, sym, ap, ◌∙◌}
use mathlib.Core.Bool.{Bool, true, false, cond, ◌&&◌}
use mathlib.Core.List.{List, [], ◌∷◌, ◌++◌, append_assoc, append-nil}
use mathlib.Core.Logic.{◌⊎◌, inl, inr, ⊎_elim}
use Prim.Native.Nat.{ℕ, ◌+◌, ◌≤◌, ◌<◌}
use native.Mathlib.Omega.{arith}
use borrow.Author.Tests.{eq-eqb, ne_eqb, eqb-true, eqb-false, ltb-true, ltb-false, le-leb, lt-leb, leb-true, leb-false}
use lib.ListN.{length}
use lib.Dec.{eqb, ltb, leb}
use Rattle.lists.proofs.Cases.{never, eq-or-ne, lt-or-le}
use Rattle.dimacs.specs.Words.{Piece}
use Rattle.dimacs.specs.Lines.{lines_at}
use Rattle.dimacs.specs.Numbers.{Numeral, numeral_of}
use Rattle.dimacs.specs.declared.Number.{Number}
use Rattle.store.specs.Refusals.{Said, said_refused, said}
use Rattle.store.specs.Stores.{max_variables, max_clauses, max_literals}
use Rattle.standing.specs.Keyed.{Keyed}
use Rattle.store.specs.declared.refusal.Refusal.{Refusal}
use Rattle.comments.specs.Comments.{is_comment, after_comments}
use Rattle.opening.specs.Problem.{sizes_of, within_limits, problem_in, problem_of}
use Rattle.opening.specs.Clauses.{scan_from}
use Rattle.opening.specs.Opening.{body_of, opened_if, opened_by}
use Rattle.opening.specs.declared.Sizes.{Sizes}
use Rattle.opening.specs.declared.Problem.{Problem}
use Rattle.opening.proofs.ProblemLaws.{many-variables, many-clauses, within}
use Rattle.opening.proofs.ScanLaws.{scan-extra, scan-word, scan-close, scan-beyond, scan-many, scan-literal}
use Rattle.calls.specs.Calls.{Dimensions, open_says}
use Rattle.demands.specs.Reasons.{Reason, AllPass, FirstFailing, Comment, no_problem_line, size_over_limit, Reads, not_number, literal_beyond}
use Rattle.demands.specs.Reasons.{count_of, is_zero, is_nonzero, closed_by, literals_by, too_many_literals, too_short, word_reasons, end_reasons, IsProblemLine, body_reasons, open_reasons}
use Rattle.demands.proofs.Firsts.{never_both, one-first, Turn, on, stop, Walked, found, none, walked}
use Rattle.demands.proofs.Refusing.{Exact, same-said, refuses, goes_on, held, missed, where-true, where-false, too_short_lem}

-- ---- the words after the problem line

count-more : (test : Numeral → Bool) (before : List Piece) (w : Piece) → count_of test (before ++ (w ∷ [])) ≡ count_of test before + cond (test (numeral_of w.bytes)) 1 0
unfolding count_of
count-more test [] w = omega arith
count-more test (y ∷ before) w = omega (arith, count-more test before w)

-- a word that is a number closes a clause, or is a literal
module _ (before : List Piece) (w : Piece) (x : Number) (reads : Reads w x) where
  closes : x.size ≡ 0 → (closed_by (before ++ (w ∷ [])) ≡ closed_by before + 1) × (literals_by (before ++ (w ∷ [])) ≡ literals_by before)
  closes z = (
    count-more is_zero before w ∙ rw (reads, eq-eqb x.size 0 z),
    count-more is_nonzero before w ∙ rw (reads, eq-eqb x.size 0 z) (omega arith),
  )

  counts : (x.size ≡ 0 → ⊥) → (closed_by (before ++ (w ∷ [])) ≡ closed_by before) × (literals_by (before ++ (w ∷ [])) ≡ literals_by before + 1)
  counts z = (
    count-more is_zero before w ∙ rw (reads, ne_eqb x.size 0 z) (omega arith),
    count-more is_nonzero before w ∙ rw (reads, ne_eqb x.size 0 z),
  )

-- what is said of the words of a text of a length, after a problem line of n and m, where there is room for so many literals, ends and keys
module _ (end n m literals ends keys : ℕ) (all : List Piece) where
  abbrev judged : Result ℕ Refusal → Said Dimensions
  judged scanned = said (opened_if scanned (record { variables = n; clauses = m }) literals ends keys)

  abbrev last : List Reason
  last = end_reasons m all end literals ends keys

  last-exact : closed_by all ≤ m → Exact last (judged (scan_from end n m (closed_by all) (literals_by all) []))
  unfolding scan_from
  last-exact h =
      where-false (eqb (closed_by all) m)
      (λ t. (omega (arith, eqb-false (closed_by all) m t), rw t))
      (λ t. (λ k. omega (arith, eqb-true (closed_by all) m t), same-said (rw t) fits))
    where
      fits : Exact (too_short (literals_by all) literals ∷ too_short m ends ∷ too_short m keys ∷ []) (judged (Ok (literals_by all)))
      fits =
          where-false (leb (literals_by all) literals)
          (λ t. (leb-false (literals_by all) literals t, rw t))
          (λ t. (
            λ k. omega (arith, leb-true (literals_by all) literals t),
            where-false (leb m ends)
                (λ u. (leb-false m ends u, rw (t, u)))
                (λ u. (
                  λ k. omega (arith, leb-true m ends u),
                  too_short_lem (record { variables = n; clauses = m }) m keys (λ k. rw (t, u, le-leb m keys k)) (λ k. rw (t, u, lt-leb m keys k)),
                )),
          ))

  -- one word, and what is known of the words after it
  module _ (before : List Piece) (w : Piece) (words : List Piece) where
    abbrev Scans : List Reason → List Piece → List Piece → Type 0
    Scans reasons passed left = Exact reasons (judged (scan_from end n m (closed_by passed) (literals_by passed) left))

    abbrev later : List Reason
    later = word_reasons n m (before ++ (w ∷ [])) words ++ last

    module _ (low : closed_by before ≤ m) (more : closed_by before ≡ m → ⊥) (rest : closed_by (before ++ (w ∷ [])) ≤ m → Scans later (before ++ (w ∷ [])) words) where
      module _ (x : Number) (reads : Reads w x) where
        the_size : (y : Number) → Reads w y → y.size ≡ x.size
        the_size y r = let same : y ≡ x = cc in ap (λ (z : Number). z.size) same

        zero-exact : x.size ≡ 0 → Scans (literal_beyond n w ∷ too_many_literals before w ∷ later) before (w ∷ words)
        zero-exact z =
            let c = closes before w x reads z in
            missed (λ k. omega (arith, the_size k.0 k.1, k.2))
            (missed (λ k. omega (arith, the_size k.0 k.1, k.2))
            (same-said
            (ap judged (scan-close end n m (closed_by before) (literals_by before) (w ∷ words) w words refl more x reads z))
            (rw (c.0, c.1) at (rest (omega (arith, c.0))))))

        literal-exact : (x.size ≡ 0 → ⊥) → Scans (literal_beyond n w ∷ too_many_literals before w ∷ later) before (w ∷ words)
        literal-exact z =
            let c = counts before w x reads z in
            where-true (ltb n x.size)
            (λ t. let far = ltb-true n x.size t in
            ((x, reads, far), ap judged (scan-beyond end n m (closed_by before) (literals_by before) (w ∷ words) w words refl more x reads z far)))
            (λ t. let near = ltb-false n x.size t in (
              λ k. omega (arith, the_size k.0 k.1, k.2),
              where-true (eqb (literals_by before) max_literals)
                  (λ u. let full = eqb-true (literals_by before) max_literals u in
                  ((x, reads, omega arith, full), ap judged (scan-many end n m (closed_by before) (literals_by before) (w ∷ words) w words refl more x reads z near full)))
                  (λ u. let room = eqb-false (literals_by before) max_literals u in (
                    λ k. room k.3,
                    same-said
                        (ap judged (scan-literal end n m (closed_by before) (literals_by before) (w ∷ words) w words refl more x reads z near room))
                        (rw (c.0, c.1) at (rest (omega (arith, c.0)))),
                  )),
            ))

      word-exact : Scans (not_number w ∷ literal_beyond n w ∷ too_many_literals before w ∷ later) before (w ∷ words)
      word-exact = by (numeral_of w.bytes) refl
        where
          by : (x : Numeral) → numeral_of w.bytes ≡ x → Scans (not_number w ∷ literal_beyond n w ∷ too_many_literals before w ∷ later) before (w ∷ words)
          by (Numeral.Is x) e = missed (λ f. f (x, e)) (⊎_elim (zero-exact x e) (literal-exact x e) (eq-or-ne x.size 0))
          by Numeral.Not e =
              held
              (λ h. let z : ◌≡◌ {A = ℕ} 0 1 = cc h.1 in omega arith)
              (ap judged (scan-word end n m (closed_by before) (literals_by before) (w ∷ words) w words refl more e))

  scan-exact : (before words : List Piece) → all ≡ before ++ words → closed_by before ≤ m
      → Exact (word_reasons n m before words ++ last) (judged (scan_from end n m (closed_by before) (literals_by before) words))
  unfolding word_reasons
  scan-exact before [] e low = let whole : before ≡ all = sym (append-nil before) ∙ sym e in rw whole (last-exact (rw whole at low))
  scan-exact before (w ∷ words) e low =
      where-true (eqb (closed_by before) m)
      (λ t. let q = eqb-true (closed_by before) m t in (q, ap judged (scan-extra end n m (closed_by before) (literals_by before) (w ∷ words) w words refl q)))
      (λ t. let more = eqb-false (closed_by before) m t in (
        more,
        word-exact before w words low more (scan-exact (before ++ (w ∷ [])) words (e ∙ sym (append_assoc before (w ∷ []) words))),
      ))

-- ---- the problem line

abbrev comment_walk : List Piece → List Piece → List Piece
comment_walk before lines = after_comments lines

abbrev line_at : List Piece → Piece → List Piece → List Piece
line_at before line after = line ∷ after

comment-turn : (before : List Piece) (line : Piece) (after : List Piece) → AllPass Comment before → Turn Comment comment_walk line_at before line after
unfolding after_comments
comment-turn before line after p = by (is_comment line) refl
  where
    by : (t : Bool) → is_comment line ≡ t → Turn Comment comment_walk line_at before line after
    by true e = on e (rw e)
    by false e = stop (λ h. never (sym e ∙ h)) (rw e)

comments : (lines : List Piece) → Walked Comment comment_walk line_at lines
comments lines = walked Comment comment_walk line_at comment-turn lines

problem-here : (text : List ℕ) (f : FirstFailing Comment (lines_at text 0)) → after_comments (lines_at text 0) ≡ f.it ∷ f.after
    → problem_of text ≡ within_limits (sizes_of f.it.bytes) f.it.place (f.it.place + length f.it.bytes)
unfolding problem_of problem_in
problem-here text f after = rw after

within-line : (z : Option Sizes) (place end : ℕ) (p : Problem) → within_limits z place end ≡ Ok p → (z ≡ Some p.sizes) × (p.end ≡ end)
within-line None place end p e = never (cc)
within-line (Some sizes) place end p e = by (leb sizes.variables max_variables && leb sizes.clauses max_clauses) e
  where
    by : (t : Bool) → cond t (Ok (record { sizes = sizes; end = end })) (Err (Refusal.SizeOverLimit place)) ≡ Ok p → (Some sizes ≡ Some p.sizes) × (p.end ≡ end)
    by true q = (cc, cc)
    by false q = never (cc)

pub problem-line : (text : List ℕ) (p : Problem) → problem_of text ≡ Ok p → IsProblemLine text p
unfolding problem_of problem_in after_comments
problem-line text p e = by (comments (lines_at text 0))
  where
    by : Walked Comment comment_walk line_at (lines_at text 0) → IsProblemLine text p
    by (none all k) = never (cc)
    by (found f k) =
        let h = within-line (sizes_of f.it.bytes) f.it.place (f.it.place + length f.it.bytes) p (sym (problem-here text f k) ∙ e) in
        (f, h.0, h.1)

module _ (s : Keyed) (text : List ℕ) where
  abbrev room-literals : ℕ
  room-literals = length s.store.literals

  abbrev room-ends : ℕ
  room-ends = length s.store.ends

  abbrev room-keys : ℕ
  room-keys = length s.keys

  abbrev body : List Reason
  body = body_reasons (problem_of text) text room-literals room-ends room-keys

  refused-head : (r : Refusal) → problem_of text ≡ Err r → open_says s text ≡ said_refused r
  unfolding open_says opened_by
  refused-head r e = rw e

  body-exact : (n m end : ℕ) → problem_of text ≡ Ok (record { sizes = record { variables = n; clauses = m }; end = end }) → Exact body (open_says s text)
  unfolding open_says opened_by count_of
  body-exact n m end e = rw e (scan-exact (length text) n m room-literals room-ends room-keys (body_of text) [] (body_of text) refl (omega arith))

  -- a line that is no comment
  module _ (f : FirstFailing Comment (lines_at text 0)) (after : after_comments (lines_at text 0) ≡ f.it ∷ f.after) where
    here : problem_of text ≡ within_limits (sizes_of f.it.bytes) f.it.place (f.it.place + length f.it.bytes)
    here = problem-here text f after

    same_place : (g : FirstFailing Comment (lines_at text 0)) → g.it.place ≡ f.it.place
    same_place g = ap (λ (line : Piece). line.place) (one-first Comment g f).1

    same-sizes : (g : FirstFailing Comment (lines_at text 0)) → sizes_of g.it.bytes ≡ sizes_of f.it.bytes
    same-sizes g = ap (λ (line : Piece). sizes_of line.bytes) (one-first Comment g f).1

    module _ (n m : ℕ) (sizes : sizes_of f.it.bytes ≡ Some (record { variables = n; clauses = m })) where
      abbrev place : ℕ
      place = f.it.place

      abbrev end : ℕ
      end = f.it.place + length f.it.bytes

      abbrev of_line : Sizes
      of_line = record { variables = n; clauses = m }

      limits : problem_of text ≡ within_limits (Some of_line) place end
      limits = here ∙ rw sizes

      over : (max_variables < n) ⊎ (max_clauses < m) → problem_of text ≡ Err (Refusal.SizeOverLimit place) → Exact (size_over_limit text ∷ body) (open_says s text)
      over h e =
          refuses (size_over_limit text) place (f, n, m, sizes, h, refl) (λ p k. k.5 ∙ same_place k.0) (refused-head (Refusal.SizeOverLimit place) e)

      size_exact : Exact (size_over_limit text ∷ body) (open_says s text)
      size_exact =
          ⊎_elim
          (λ h. over (inl h) (limits ∙ many-variables of_line place end h))
          (λ h. ⊎_elim
          (λ k. over (inr k) (limits ∙ many-clauses of_line place end h k))
          (λ k. goes_on (size_over_limit text) (λ p o. none_over o h k) (body-exact n m end (limits ∙ within of_line place end h k)))
          (lt-or-le max_clauses m))
          (lt-or-le max_variables n)
        where
          none_over : {p : ℕ} → (size_over_limit text).at p → n ≤ max_variables → m ≤ max_clauses → ⊥
          none_over o h k =
              let q : ◌≡◌ {A = Option Sizes} (Some (record { variables = o.1; clauses = o.2 })) (Some of_line) = sym o.3 ∙ same-sizes o.0 ∙ sizes in
              let same : ◌≡◌ {A = Sizes} (record { variables = o.1; clauses = o.2 }) of_line = cc in
              let same-n : o.1 ≡ n = ap (λ (z : Sizes). z.variables) same in
              let same-m : o.2 ≡ m = ap (λ (z : Sizes). z.clauses) same in
              ⊎_elim (λ big. omega arith) (λ big. omega arith) o.4

    line-exact : (sizes : Option Sizes) → sizes_of f.it.bytes ≡ sizes → Exact (open_reasons s text) (open_says s text)
    line-exact None e =
        refuses (no_problem_line text) f.it.place (inl (f, e, refl))
        (λ p. ⊎_elim (λ h. h.2 ∙ same_place h.0) (λ h. absurd (never_both Comment h.0 f)))
        (refused-head (Refusal.NoProblemLine f.it.place) (here ∙ rw e))
    line-exact (Some o) e =
        goes_on (no_problem_line text)
        (λ p. ⊎_elim
        (λ h. let q : ◌≡◌ {A = Option Sizes} None (Some o) = sym h.1 ∙ same-sizes h.0 ∙ e in let z : ◌≡◌ {A = ℕ} 0 1 = cc in omega arith)
        (λ h. never_both Comment h.0 f))
        (size_exact o.variables o.clauses e)

  -- no line but comments
  comments-exact : AllPass Comment (lines_at text 0) → after_comments (lines_at text 0) ≡ [] → Exact (open_reasons s text) (open_says s text)
  unfolding problem_of problem_in
  comments-exact all e =
      refuses (no_problem_line text) (length text) (inr (all, refl))
      (λ p. ⊎_elim (λ h. absurd (never_both Comment all h.0)) (λ h. h.1))
      (refused-head (Refusal.NoProblemLine (length text)) (rw e))

  pub open-exact : Exact (open_reasons s text) (open_says s text)
  unfolding after_comments
  open-exact = by (comments (lines_at text 0))
    where
      by : Walked Comment comment_walk line_at (lines_at text 0) → Exact (open_reasons s text) (open_says s text)
      by (found f e) = line-exact f e (sizes_of f.it.bytes) refl
      by (none all e) = comments-exact all e
