-- Where a server starts: a disk. Assumes nothing.
use Rattle.std.specs.Prelude.{ℕ, ◌≡◌, true, List}
use Rattle.records.specs.Recovery.{recovered}
use Rattle.areas.specs.Areas.{Areas, stable_count}
use Rattle.areas.specs.Entry.{pages}
use Rattle.calls.specs.Formatting.{cut}
use Rattle.calls.specs.Calls.{reopen}
use Rattle.reach.specs.Reaching.{Whole}
use Rattle.book.specs.Books.{awaiting, blank}
use Rattle.book.specs.Feeding.{at_stage}
use Rattle.book.specs.Demand.{Event, Point, accepts, Throughout}

-- the pages that reopening makes of the stored pages and the stable records
abbrev pub recovered_pages : Areas → List ℕ
recovered_pages s = recovered s.stored s.log (stable_count s)

-- 'A cut keeps the stored pages, the stable count and that many records; all else comes back as zeros': what a server finds that starts,
-- whatever the areas s were. Of what led there no book was kept: its book starts from the pages that reopening makes
abbrev pub from_disk : Areas → Point
from_disk s = record { store = cut s; book = at_stage (blank (recovered_pages (cut s))) awaiting }

-- a disk to start from: reopening accepts it, and whatever the root reaches in the pages that it makes is occupied
pub record Disk (s : Areas) : Type 0 where
  pub sound : accepts (from_disk s) reopen ≡ true
  pub whole : Whole (recovered_pages (cut s))

-- demand 3 from such a disk on, for every list
abbrev pub DemandFromDisk : Type 0
DemandFromDisk = (s : Areas) → Disk s → (es : List Event) → Throughout (pages s) (from_disk s) es
