-- Document 02, L6: 'Records that a reader knows stay safe as before.' Over lists, by the ledger of the locks that were granted and by what the
-- book has a transaction know. Assumes nothing.
use Rattle.std.specs.Prelude.{ℕ, ◌≤◌, ◌≡◌, Bool, true, false, eqb}
use Rattle.pages.specs.Geometry.{page_of}
use Rattle.areas.specs.Areas.{Areas}
use Rattle.areas.specs.Entry.{pages}
use Rattle.calls.specs.Calls.{Call, reopens, perform, begin, commit, abort, grant, lock_read, lock_write, read, create, set_word, flush, force, store, empty, pass, step, reopen, restep, mark, back, look}
use Rattle.book.specs.Demand.{Point, accepts, reclaims}
use Rattle.guarantees.specs.Ledgers.{AlwaysKept}
use Rattle.guarantees.specs.Holders.{Granted, grants, holds}
use Rattle.guarantees.specs.Sameness.{SameObject}

-- t's own calls; those of the collector, the log, the disk and the desk are nobody's
abbrev pub own : ℕ → Call → Bool
own t (begin u c) = eqb u t
own t (commit u) = eqb u t
own t (abort u) = eqb u t
own t (grant c p r) = false
own t (lock_read u p) = eqb u t
own t (lock_write u p) = eqb u t
own t (read u o buffer) = eqb u t
own t (create u o) = eqb u t
own t (set_word u o f v) = eqb u t
own t (flush u p image) = eqb u t
own t force = false
own t (store p) = false
own t empty = false
own t pass = false
own t step = false
own t reopen = false
own t restep = false
own t (mark u m) = eqb u t
own t (back u m) = eqb u t
own t (look q) = false

-- t was let lock the page of object x and has not ended; the call is another's, and no reopening, which ends them all
pub record Foreign (l : Granted) (t x : ℕ) (c : Call) : Type 0 where
  pub object : 1 ≤ x
  pub lock : holds l t (page_of x) ≡ true
  pub other : own t c ≡ false
  pub goes_on : reopens c ≡ false

-- the call changes no word of object x and frees no slot of it, in the received pages and in the copies
pub record Leaves (s : Areas) (c : Call) (x : ℕ) : Type 0 where
  pub received : SameObject x (perform s c).after.received s.received
  pub copies : SameObject x (perform s c).after.copies s.copies

-- at a point of a list, by the ledger and the book
pub record KeptForReaders (q : Point) (l : Granted) : Type 0 where
  -- while t holds a lock on the page of an object that it knows, no call but its own changes a word of it or frees its slot
  pub known : (t x : ℕ) (c : Call) → Foreign l t x c → q.book.known t x ≡ true → Leaves q.store c x
  -- of what it does not know on the page a pass step may free slots; no other call changes anything there
  pub others : (t x : ℕ) (c : Call) → Foreign l t x c → (c ≡ step → ⊥) → Leaves q.store c x
  -- a slot that a sweep clears under t's lock is one that t does not know
  pub swept : (t x : ℕ) → holds l t (page_of x) ≡ true → accepts q step ≡ true → reclaims (pages q.store) q step x ≡ true → q.book.known t x ≡ false

abbrev pub AlwaysKeptForReaders : Type 0
AlwaysKeptForReaders = AlwaysKept Granted grants KeptForReaders
