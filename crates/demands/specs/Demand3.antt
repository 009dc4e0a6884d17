-- Demand 3 of the brief, sentence by sentence: one claim about a whole list of calls, about the calls' own definitions. `demand-3` (proofs/Demand3.antt)
-- says that it holds for every lent store and text for which opening answers, and every list of calls. Assumes nothing.
use Rattle.std.specs.Prelude.{◌≡◌, ◌↔◌, ℕ, Bool, List, ◌++◌, length, take}
use Rattle.packed.specs.Words.{bits_of, words_of}
use Rattle.store.specs.Refusals.{done}
use Rattle.store.specs.Stores.{plain_of, held_rows}
use Rattle.standing.specs.Keyed.{Keyed}
use Rattle.opening.specs.Opening.{formula_of}
use Rattle.lexleader.specs.Models.{Model, Satisfiable}
use Rattle.lexleader.specs.Made.{made, made_variables}
use Rattle.lexleader.specs.Kept.{Completes, Kept, Least, Carried}
use Rattle.lexleader.specs.Store.{made_of, variables_of}
use Rattle.checking.specs.Checking.{yes}
use Rattle.descent.specs.Words.{settled_after}
use Rattle.calls.specs.Calls.{open_store, fill_says, fill_leaves, check_says, descend_says, descend_leaves}
use Rattle.demands.specs.Lists.{Call, after, accepted}

-- n, F and ps: the variables and the clauses of the text, and the accepted permutations of the list, those left at its end; and the store after the list
module _ (s : Keyed) (text : List ℕ) (calls : List Call) where
  abbrev pub variables : ℕ
  variables = (open_store s text).store.counts.variables

  abbrev pub formula : List (List ℕ)
  formula = formula_of text

  abbrev pub permutations : List (List ℕ)
  permutations = accepted (open_store s text) calls

  abbrev pub left : Keyed
  left = after (open_store s text) calls

  -- an assignment is a plain model, or a kept one
  abbrev pub Plain : List Bool → Type 0
  Plain a = Model variables formula a

  abbrev pub IsKept : List Bool → Type 0
  IsKept a = Kept variables formula permutations a

  pub record Demand3 : Type 0 where
    -- "After the list the store holds exactly these as its rows, and the made formula is the one that they give" (document 01)
    pub rows : held_rows left.store ≡ permutations
    pub plain : plain_of left.store ≡ formula
    pub makes : made_of left.store ≡ made variables formula permutations
    pub numbers : variables_of left.store ≡ made_variables variables permutations
    -- "After the list the made formula has a model exactly when the plain one has."
    pub satisfiable : Satisfiable variables formula ↔ Satisfiable (variables_of left.store) (made_of left.store)
    -- "Every plain model is carried by accepted permutations, one after another, as often as needed or not at all, to a kept one."
    pub carried : (a : List Bool) → Plain a → (b : List Bool) × Carried permutations a b × IsKept b
    -- "Every descent that starts at a plain model and answers settled, whatever its limit, ends on a kept one."
    pub settles : (words : List ℕ) (limit moves : ℕ) → Plain (bits_of variables words) → descend_says left words limit ≡ done (settled_after moves)
        → IsKept (bits_of variables (descend_leaves left words limit))
    -- "Kept are exactly those plain models that no accepted permutation makes smaller."
    pub kept : (a : List Bool) → IsKept a ↔ (Plain a × Least permutations a)
    -- "For each of them exactly one setting of the auxiliary variables makes it a model of the made formula,"
    pub one : (a t u : List Bool) → IsKept a → Completes variables formula permutations a t → Completes variables formula permutations a u → t ≡ u
    -- "and filling in, unless refused, writes it with that setting."
    pub fills : (words out : List ℕ) (written : ℕ) → IsKept (bits_of variables words) → fill_says left words (length out) ≡ done written
        → (t : List Bool) × Completes variables formula permutations (bits_of variables words) t × (take written (fill_leaves left words out) ≡ words_of (bits_of variables words ++ t))
    -- and what it writes, checked, is a model of the made formula
    pub checks : (words out : List ℕ) (written : ℕ) → IsKept (bits_of variables words) → fill_says left words (length out) ≡ done written
        → check_says left (take written (fill_leaves left words out)) ≡ done yes
