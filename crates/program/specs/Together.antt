-- The pages of an output together: what is handed over from a stage to the last, page after page. Assumes nothing.
use Rattle.std.specs.Prelude.{◌≡◌, ℕ, List, [], ◌∷◌, ◌++◌, take}
use Rattle.store.specs.Stores.{Store}
use Rattle.program.specs.Program.{PageStep}
use Rattle.program.specs.declared.Stage.{Stage}

-- The pages from a stage on, each one step from the stage that the one before it left, in buffers of any contents. A page without bytes is the last, and
-- only such a page is.
pub data PagesFrom (s : Store) : Stage → List (List ℕ) → Type 0 where
  last : (stage next : Stage) (out after : List ℕ) → PageStep s stage out next 0 after → PagesFrom s stage []
  page : (stage next : Stage) (out after : List ℕ) (bytes : ℕ) (pages : List (List ℕ)) → PageStep s stage out next bytes after → (bytes ≡ 0 → ⊥)
      → PagesFrom s next pages → PagesFrom s stage (take bytes after ∷ pages)

-- pages one after another
unfoldable pub together : List (List ℕ) → List ℕ
together [] = []
together (bytes ∷ pages) = bytes ++ together pages
