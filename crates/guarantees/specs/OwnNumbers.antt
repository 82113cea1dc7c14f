-- Document 02, L8: no object comes to have its own number in a reference word. Over lists, from a formatted store and from a disk with old
-- ones on. Assumes nothing.
use Rattle.std.specs.Prelude.{ℕ, ◌<◌, ◌≤◌, ◌≡◌, true, List, get_or}
use Rattle.pages.specs.Geometry.{slot_words, max_pages, is_ref}
use Rattle.records.specs.Records.{max_records}
use Rattle.calls.specs.Calls.{read}
use Rattle.calls.specs.Objects.{buffer_after}
use Rattle.reach.specs.Reaching.{Refers}
use Rattle.book.specs.Demand.{Event, Point, accepts, start}
use Rattle.guarantees.specs.Points.{AtEvery, Always}

-- no object of the page area, occupied or not, has its own number in a reference word
abbrev pub NoneIn : List ℕ → Type 0
NoneIn a = (o f : ℕ) → Refers a o f o → ⊥

-- where the list stands: none in the received pages, the copies and the stored pages, and no read shows one
pub record NoOwnNumber (q : Point) : Type 0 where
  pub received : NoneIn q.store.received
  pub copies : NoneIn q.store.copies
  pub stored : NoneIn q.store.stored
  pub shown : (t o f : ℕ) (buffer : List ℕ) → accepts q (read t o buffer) ≡ true → f < slot_words → is_ref q.store.received o f ≡ true
      → get_or (buffer_after q.store t o buffer) f 0 ≡ o → ⊥

-- at every point of every list from a freshly formatted store on
abbrev pub NeverOwnNumbers : Type 0
NeverOwnNumbers = (n l : ℕ) → 1 ≤ n → n ≤ max_pages → 1 ≤ l → l ≤ max_records → (es : List Event) → AtEvery n NoOwnNumber (start n l) es

-- 'Ones already stored stay': each that the page area has, the pages that the book starts from had, in the same word of the same object
abbrev pub OldIn : Point → List ℕ → Type 0
OldIn q a = (o f : ℕ) → Refers a o f o → Refers q.book.origin o f o

pub record OldNumbers (q : Point) : Type 0 where
  pub received : OldIn q q.store.received
  pub copies : OldIn q q.store.copies

-- at every point of every list, from a disk with old ones too
abbrev pub AlwaysOldNumbers : Type 0
AlwaysOldNumbers = Always OldNumbers
