-- Document 02, L9: over lists, by the ledger of begins and of rights given, 'read hands out no word of a page the client may not read, and no
-- word of a page it may not write is changed'. Assumes nothing.
use Rattle.std.specs.Prelude.{ℕ, ◌≤◌, ◌<◌, ◌≡◌, true, false, List, length, Ok}
use Rattle.pages.specs.Geometry.{page_of, slot_words}
use Rattle.pages.specs.Objects.{word_of}
use Rattle.areas.specs.Areas.{Areas}
use Rattle.areas.specs.Layout.{client_count, reading, writing}
use Rattle.areas.specs.Tables.{at}
use Rattle.areas.specs.Entry.{pages}
use Rattle.calls.specs.Objects.{buffer_after}
use Rattle.calls.specs.Calls.{Call, perform, grant, read}
use Rattle.book.specs.Books.{opened}
use Rattle.book.specs.Demand.{Point, accepts}
use Rattle.guarantees.specs.Ledgers.{AlwaysKept}
use Rattle.guarantees.specs.Permits.{Permits, permits, right_of}
use Rattle.guarantees.specs.Holders.{Running}
use Rattle.guarantees.specs.Readers.{own}
use Rattle.guarantees.specs.Stable.{OfPage}

-- no word of page p changes, in any of the three page areas
pub record PageStays (p : ℕ) (s s' : Areas) : Type 0 where
  pub received : (i : ℕ) → OfPage p i → at s'.received i ≡ at s.received i
  pub copies : (i : ℕ) → OfPage p i → at s'.copies i ≡ at s.copies i
  pub stored : (i : ℕ) → OfPage p i → at s'.stored i ≡ at s.stored i

-- an accepted read hands out the eight words of its object, and word 0 as its value
pub record HandsOut (s : Areas) (t o : ℕ) (buffer : List ℕ) : Type 0 where
  pub many : length (buffer_after s t o buffer) ≡ slot_words
  pub words : (f : ℕ) → f < slot_words → at (buffer_after s t o buffer) f ≡ word_of s.received o f
  pub value : (perform s (read t o buffer)).answer ≡ Ok (word_of s.received o 0)

-- at a point of a list, by the ledger
pub record Isolated (q : Point) (l : Permits) : Type 0 where
  -- 'read hands out no word of a page the client may not read'
  pub reads : (t o : ℕ) (buffer : List ℕ) → accepts q (read t o buffer) ≡ true → reading ≤ right_of l t (page_of o)
  pub shows : (t o : ℕ) (buffer : List ℕ) → accepts q (read t o buffer) ≡ true → HandsOut q.store t o buffer
  -- 'no word of a page it may not write is changed by its sets, creates, going back or abort', nor by any other call of its own
  pub writes : (t p : ℕ) (c : Call) → own t c ≡ true → p < pages q.store → right_of l t p < writing → PageStays p q.store (perform q.store c).after
  -- 'a call changes one entry, only for a client without an active transaction'
  pub steady : (t p r : ℕ) → Running q t → accepts q (grant (l.client t) p r) ≡ false
  pub changes : (c p r : ℕ) → c < client_count → p < pages q.store → r ≤ writing → q.book.stage ≡ opened → ((t : ℕ) → Running q t → l.client t ≡ c → ⊥)
      → accepts q (grant c p r) ≡ true

abbrev pub AlwaysIsolated : Type 0
AlwaysIsolated = AlwaysKept Permits permits Isolated
