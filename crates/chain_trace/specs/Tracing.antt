-- The chain of an object, traced back by the finders that a search has left. Assumes nothing.
use Rattle.std.specs.Prelude.{ℕ, ◌-◌, ◌<◌, ◌≤◌, ◌≡◌, List, length, get_or}
use Rattle.pages.specs.Geometry.{object_count, max_pages}
use Rattle.chain_search.specs.Ending.{Back}

-- there is a chain along which the finders lead back
pub record Traceable (from queue : List ℕ) (o : ℕ) : Type 0 where
  pub chain : List ℕ
  pub back : Back from o chain
  pub room : object_count max_pages ≤ length queue

-- d words of the queue are such a chain, the last object first
pub record Reversed (from : List ℕ) (o : ℕ) (queue : List ℕ) (d : ℕ) : Type 0 where
  pub chain : List ℕ
  pub back : Back from o chain
  pub size : d ≡ length chain
  pub words : (k : ℕ) → k < d → get_or queue k 0 ≡ get_or chain (d - 1 - k) 0
