-- A disk that reopening accepts and that no server should start from, computed: the root names a free slot. A transaction comes to know
-- that slot by reading and sets a word there (DECISIONS 8); a free slot is not zero then, and a lent call answers 1. So the condition that
-- whatever the root reaches is occupied is needed (crates/guarantees/specs/Disks.antt). Assumes nothing.
use Rattle.std.specs.Prelude.{◌≡◌, refl, true, not, List, [], ◌∷◌, replicate}
use Rattle.areas.specs.Areas.{Areas}
use Rattle.areas.specs.Layout.{work_words}
use Rattle.areas.specs.Entry.{well_formed}
use Rattle.calls.specs.Calls.{begin, grant, lock_write, read, set_word, reopen, restep}
use Rattle.book.specs.Books.{awaiting, blank}
use Rattle.book.specs.Feeding.{at_stage}
use Rattle.book.specs.Demand.{Point}
use Rattle.computing.specs.Book.{book}
use Rattle.computed_run.specs.Run.{Scene, gives, refuses, asks, plays, image}

-- one page, whose map has the root alone, and the root names object 2; no record
abbrev broken : Areas
broken = record {
  stored = image 1 2 0;
  copies = replicate 129 0;
  received = replicate 129 0;
  log = replicate 24 0;
  counts = 0 ∷ 0 ∷ [];
  work = replicate (work_words 1 4) 0;
}

abbrev from : Point
from = record { store = broken; book = at_stage (blank (image 1 2 0)) awaiting }

abbrev scenes : List Scene
scenes =
    gives 0 reopen ∷ gives 0 restep ∷ gives 1 restep ∷ gives 0 (grant 0 0 2) ∷ gives 1 (begin 0 0) ∷ gives 0 (lock_write 0 0) ∷ gives 2 (read 0 1 (replicate 8 0))
    ∷ asks (λ q. well_formed true q.store) ∷ gives 2 (set_word 0 2 4 7) ∷ asks (λ q. not (well_formed true q.store)) ∷ refuses 1 (begin 1 0) ∷ []

pub broken_plays : plays 1 from scenes ≡ true
unfolding plays book
broken_plays = refl
