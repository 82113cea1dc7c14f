-- A claim of every point of every list of calls and cuts, as demand 3's is. Assumes nothing.
use Rattle.std.specs.Prelude.{ℕ, ◌≤◌, List, [], ◌∷◌}
use Rattle.pages.specs.Geometry.{max_pages}
use Rattle.records.specs.Records.{max_records}
use Rattle.areas.specs.Areas.{Areas}
use Rattle.areas.specs.Entry.{pages}
use Rattle.book.specs.Demand.{Event, Point, after, start}
use Rattle.guarantees.specs.Disks.{from_disk, Disk}

-- at every point of the list, the last too
pub data AtEvery (n : ℕ) (Q : Point → Type 0) : Point → List Event → Type 0 where
  last : {q : Point} → Q q → AtEvery n Q q []
  then : {q : Point} {e : Event} {es : List Event} → Q q → AtEvery n Q (after n q e) es → AtEvery n Q q (e ∷ es)

pub record Always (Q : Point → Type 0) : Type 0 where
  -- from a freshly formatted store on, every number of pages and of log records
  pub formatted : (n l : ℕ) → 1 ≤ n → n ≤ max_pages → 1 ≤ l → l ≤ max_records → (es : List Event) → AtEvery n Q (start n l) es
  -- from a disk on
  pub disk : (s : Areas) → Disk s → (es : List Event) → AtEvery (pages s) Q (from_disk s) es
