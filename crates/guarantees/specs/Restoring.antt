-- Document 02, L3, what going back restores: each page that t had locked for writing at the mark is received as it was then, each locked
-- since as committed. Over lists, by a ledger of the locks that were granted and of what each mark found. Assumes nothing.
use Rattle.std.specs.Prelude.{ℕ, ◌<◌, ◌≡◌, Bool, true, false, List, []}
use Rattle.areas.specs.Entry.{pages}
use Rattle.calls.specs.Calls.{Call, perform, begin, commit, abort, grant, lock_read, lock_write, read, create, set_word, flush, force, store, empty, pass, step, reopen, restep, mark, back, look}
use Rattle.book.specs.Books.{committed_pages}
use Rattle.book.specs.Feeding.{put}
use Rattle.book.specs.Demand.{Point, accepts}
use Rattle.guarantees.specs.Ledgers.{Ledger, AlwaysKept}
use Rattle.guarantees.specs.Holders.{Granted, nothing, granting}
use Rattle.guarantees.specs.Sameness.{SamePage}

-- the locks that were granted; by transaction and mark, what t found where it last set the mark: the received pages, and the pages that it
-- had been let write
pub record Noted : Type 0 where
  pub granted : Granted
  pub pages : ℕ → ℕ → List ℕ
  pub owned : ℕ → ℕ → ℕ → Bool

-- no mark was set
abbrev pub unnoted : Noted
unnoted = record { granted = nothing; pages = λ t m. []; owned = λ t m p. false }

-- t sets mark m, and finds the received pages r
abbrev pub notes : Noted → ℕ → ℕ → List ℕ → Noted
notes l t m r = record { granted = l.granted; pages = put l.pages t (put (l.pages t) m r); owned = put l.owned t (put (l.owned t) m (l.granted.writes t)) }

-- any other call concerns the locks alone, but for a reopen: no transaction and no mark remains
abbrev pub locking : Noted → Call → Noted
locking l c = record { granted = granting l.granted c; pages = l.pages; owned = l.owned }

abbrev pub noting : Noted → Call → List ℕ → Noted
noting l (begin t c) r = locking l (begin t c)
noting l (commit t) r = locking l (commit t)
noting l (abort t) r = locking l (abort t)
noting l (grant c p x) r = locking l (grant c p x)
noting l (lock_read t p) r = locking l (lock_read t p)
noting l (lock_write t p) r = locking l (lock_write t p)
noting l (read t o buffer) r = locking l (read t o buffer)
noting l (create t o) r = locking l (create t o)
noting l (set_word t o f v) r = locking l (set_word t o f v)
noting l (flush t p image) r = locking l (flush t p image)
noting l force r = locking l force
noting l (store p) r = locking l (store p)
noting l empty r = locking l empty
noting l pass r = locking l pass
noting l step r = locking l step
noting l reopen r = unnoted
noting l restep r = locking l restep
noting l (mark t m) r = notes l t m r
noting l (back t m) r = locking l (back t m)
noting l (look q) r = locking l (look q)

-- a cut leaves no lock and no mark
abbrev pub notebook : Ledger Noted
notebook = record { first = unnoted; enters = noting; drops = λ l. unnoted }

-- the received pages after t goes back to mark m
abbrev pub went_back_to : Point → ℕ → ℕ → List ℕ
went_back_to q t m = (perform q.store (back t m)).after.received

-- where it is accepted
pub record Restores (q : Point) (l : Noted) : Type 0 where
  -- a page that t had been let write at the mark is as it was then
  pub as_then : (t m p : ℕ) → accepts q (back t m) ≡ true → p < pages q.store → l.owned t m p ≡ true → SamePage p (went_back_to q t m) (l.pages t m)
  -- one that it was let write since is as committed
  pub as_committed : (t m p : ℕ) → accepts q (back t m) ≡ true → p < pages q.store → l.owned t m p ≡ false → l.granted.writes t p ≡ true
      → SamePage p (went_back_to q t m) (committed_pages q.book)
  -- nothing of others moves
  pub others : (t m p : ℕ) → accepts q (back t m) ≡ true → p < pages q.store → l.granted.writes t p ≡ false → SamePage p (went_back_to q t m) q.store.received

abbrev pub AlwaysRestores : Type 0
AlwaysRestores = AlwaysKept Noted notebook Restores
