-- What a descent notes of its rows: where the moved variables of each are. Assumes nothing.
use Rattle.std.specs.Prelude.{ℕ, ◌≤◌, ◌<◌, List, length, get_or}
use Rattle.store.specs.Stores.{row_at}
use Rattle.trial.specs.declared.Span.{Span}
use Rattle.trial.specs.Spans.{IsSpan}

-- the span noted of row r
abbrev pub span_at : List Span → ℕ → Span
span_at spans r = get_or spans r (record { first = 0; end = 0 })

pub record Noted (n rows : ℕ) (images : List ℕ) (spans : List Span) : Type 0 where
  pub room : rows ≤ length spans
  pub spans-are : (r : ℕ) → r < rows → IsSpan (row_at n r images) (span_at spans r).first (span_at spans r).end
