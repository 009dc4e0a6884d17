-- Demand 2 of the brief, sentence by sentence: which offers are accepted, what is then held, and which text the calls write. `demand-2`
-- (proofs/Demand2.antt) says that it holds for every store. Assumes nothing.
use Rattle.std.specs.Prelude.{◌≡◌, Ok, true, false, ◌↔◌, ℕ, zero, suc, ◌+◌, ◌-◌, ◌*◌, ◌≤◌, ◌<◌, List, [], ◌∷◌, ◌++◌, length, get_or, take}
use Rattle.lists.specs.Tests.{has}
use Rattle.store.specs.Refusals.{Said, done, refused}
use Rattle.store.specs.Stores.{plain_of, held_rows, max_rows}
use Rattle.store.specs.Identity.{MovesSomething}
use Rattle.standing.specs.Keyed.{Keyed, well_formed}
use Rattle.permutation.specs.Lines.{names_on, values_on}
use Rattle.permutation.specs.Stated.{stated_by}
use Rattle.symmetry.specs.Symmetry.{IsSymmetry}
use Rattle.offering.specs.Offering.{row_for, images_needed}
use Rattle.lexleader.specs.Made.{rows_clauses}
use Rattle.render.specs.Text.{header_line}
use Rattle.lexleader.specs.Store.{variables_of, clauses_of}
use Rattle.emit.specs.Emit.{lines_of, max_header, max_line}
use Rattle.calls.specs.Calls.{accepted, offer_says, offer_store, header_says, header_leaves, clause_says, clause_leaves}

-- what a call that writes put at the start of its buffer: as many bytes as it says
abbrev pub written_by : Said ℕ → List ℕ → List ℕ
written_by (done bytes) buffer = take bytes buffer
written_by (refused number place) buffer = []

module _ (s : Keyed) where
  -- the store is open, well formed and not full, and the two lines state a permutation: none of 20, 21, 22 and 7 to 10
  pub record States (names values : List ℕ) : Type 0 where
    pub opened : s.store.counts.is_open ≡ true
    pub formed : well_formed s ≡ true
    pub not_full : s.store.counts.rows < max_rows
    pub stated : stated_by s.store.counts.variables names values ≡ Ok tt

  -- "the input rules and limits permitting": these, and there is room
  pub record Permitted (names values : List ℕ) : Type 0 where
    pub states : States names values
    pub room : images_needed s.store ≤ length s.store.images

  -- what the clause call writes for `count` clauses, from number q on, one after another; clause q goes into a buffer of its own
  unfoldable pub clauses_written : (ℕ → List ℕ) → ℕ → ℕ → List ℕ
  clauses_written buffers q zero = []
  clauses_written buffers q (suc count) =
      written_by (clause_says s q (length (buffers q))) (clause_leaves s q (buffers q)) ++ clauses_written buffers (q + 1) count

  -- what is written by the header call and then by the clause call for clauses 1 to M
  unfoldable pub text_written : List ℕ → (ℕ → List ℕ) → List ℕ
  text_written buffer buffers = written_by (header_says s (length buffer)) (header_leaves s buffer) ++ clauses_written buffers 1 (clauses_of s.store)

  pub record Demand2 : Type 0 where
    -- "A permutation is accepted exactly when it turns the formula's set of clauses into itself, the input rules and limits permitting,": from CR 7 on, the set of those
    -- without a contradictory pair, and from CR 8 on, if it moves something
    pub accepts : (names values : List ℕ)
        → (offer_says s names values ≡ done accepted)
        ↔ (Permitted names values × IsSymmetry (row_for s.store names values) (plain_of s.store) × MovesSomething (row_for s.store names values))
    -- the row held from then on is that permutation: "Name i goes to its value p(i); variables not named stay" (document 01)
    pub holds : (names values : List ℕ) → offer_says s names values ≡ done accepted
        → held_rows (offer_store s names values).store ≡ held_rows s.store ++ (row_for s.store names values ∷ [])
    pub named : (names values : List ℕ) → offer_says s names values ≡ done accepted → (k : ℕ) → k < length (names_on names)
        → get_or (row_for s.store names values) (get_or (names_on names) k 0 - 1) 0 ≡ get_or (values_on values) k 0
    pub others : (names values : List ℕ) → offer_says s names values ≡ done accepted → (i : ℕ) → 1 ≤ i → i ≤ s.store.counts.variables → has (names_on names) i ≡ false
        → get_or (row_for s.store names values) (i - 1) 0 ≡ 2 * i
    -- "and the text written is exactly the plain formula followed by the documented clauses"; buffers that long have room for every line
    pub text : s.store.counts.is_open ≡ true → well_formed s ≡ true → (buffer : List ℕ) → max_header ≤ length buffer
        → (buffers : ℕ → List ℕ) → ((q : ℕ) → max_line ≤ length (buffers q))
        → text_written buffer buffers
        ≡ header_line (variables_of s.store) (clauses_of s.store) ++ lines_of (plain_of s.store ++ rows_clauses (s.store.counts.variables + 1) (held_rows s.store))
