-- Document 02, L2: whom refusal 6 tells, and L9: who lacks the right. Of every store, whatever its words are; and over lists, by a ledger of
-- the locks that were granted and one of the rights.
-- Assumes nothing.
use Rattle.std.specs.Prelude.{ℕ, ◌<◌, ◌≤◌, ◌≡◌, Bool, true, false, not, ◌&&◌, ◌||◌, List, [], ◌∷◌, eqb, leb, ltb, Ok, Err}
use Rattle.words.specs.Tests.{if, any, lowest}
use Rattle.records.specs.Records.{txn_count}
use Rattle.areas.specs.declared.Refusal.TheVariants.{OutOfRange, WrongState, Held, RightMissing}
use Rattle.areas.specs.Answers.{Test, need, number_of, answer_of, value_of, Answer}
use Rattle.areas.specs.Areas.{Areas, Out, done, with_work}
use Rattle.areas.specs.Layout.{readers_at, writers_at, client_at, right_at, reading, writing}
use Rattle.areas.specs.Tables.{at, is_txn, is_active, can_read}
use Rattle.areas.specs.Entry.{pages, called}
use Rattle.calls.specs.Locks.{no_other, read_locked, write_locked}
use Rattle.calls.specs.Calls.{Call, perform, begin, commit, abort, grant, lock_read, lock_write, read, create, set_word, flush, force, store, empty, pass, step, reopen, restep, mark, back, look}
use Rattle.book.specs.Demand.{Point}
use Rattle.guarantees.specs.Ledgers.{Ledger, both, AlwaysKept}
use Rattle.guarantees.specs.Permits.{Permits, permits, right_of}

-- refused with 6, and the value is h
abbrev pub Tells : Out → ℕ → Type 0
Tells o h = (answer_of o.answer ≡ number_of (Held h)) × (value_of o.answer ≡ h)

-- the call is, where the store stands
abbrev pub Barred : Areas → Call → ℕ → Type 0
Barred s c h = Tells (perform s c) h

-- 'the lowest-numbered other transaction with any lock on the page'; has u: u has a lock on it; t asks
pub record Lowest (has : ℕ → Bool) (t h : ℕ) : Type 0 where
  pub txn : h < txn_count
  pub other : h ≡ t → ⊥
  pub holds : has h ≡ true
  pub first : (u : ℕ) → u < h → (u ≡ t → ⊥) → has u ≡ false

-- by the masks of the page
pub record TellsHolder (s : Areas) : Type 0 where
  pub reading : (t p h : ℕ) → Barred s (lock_read t p) h → Lowest (λ u. can_read s.work (pages s) u p) t h
  pub writing : (t p h : ℕ) → Barred s (lock_write t p) h → Lowest (λ u. can_read s.work (pages s) u p) t h

-- of every store
abbrev pub HolderTold : Type 0
HolderTold = (s : Areas) → TellsHolder s

-- document 01's tests of a lock, as they were: 'a refusal's value is 0', that of 6 too
abbrev pub plain_tests : Areas → ℕ → ℕ → ℕ → Bool → List Test
plain_tests s n t p free = need 3 OutOfRange (is_txn t && ltb p n) ∷ need 4 WrongState (is_active s.work t) ∷ need 6 (Held 0) free ∷ []

-- lock for reading
abbrev pub plain_read : Areas → ℕ → ℕ → Out
plain_read s t p = called true true s (λ n. plain_tests s n t p (no_other s.work (writers_at n p) t)) (λ n. done 0 (with_work s (read_locked s.work n t p)))

-- lock for writing
abbrev pub plain_write : Areas → ℕ → ℕ → Out
plain_write s t p = called true true s (λ n. plain_tests s n t p (no_other s.work (readers_at n p) t && no_other s.work (writers_at n p) t))
    (λ n. done 0 (with_work s (write_locked s.work n t p)))

-- L9, '19, right missing, after 4': in place of a result, and of a refusal 6; a refusal of a lower number stays
abbrev pub right_first : Answer → Answer
right_first (Ok v) = Err RightMissing
right_first (Err x) = if (eqb (number_of x) 6) (Err RightMissing) (Err x)

-- the same number and the same areas: all but the value
pub record AsBefore (o o' : Out) : Type 0 where
  pub number : answer_of o.answer ≡ answer_of o'.answer
  pub areas : o.after ≡ o'.after

-- the right of t's client on page p, by the tables
abbrev pub right_in : Areas → ℕ → ℕ → ℕ
right_in s t p = at s.work (right_at (pages s) (at s.work (client_at (pages s) t)) p)

-- where t's client has the right and the value is forgotten, both locks are as before; where it has not, they change nothing
pub record PlainLocks (s : Areas) : Type 0 where
  pub reads : (t p : ℕ) → reading ≤ right_in s t p → AsBefore (perform s (lock_read t p)) (plain_read s t p)
  pub writes : (t p : ℕ) → writing ≤ right_in s t p → AsBefore (perform s (lock_write t p)) (plain_write s t p)
  pub unread : (t p : ℕ) → right_in s t p < reading → perform s (lock_read t p) ≡ record { answer = right_first (plain_read s t p).answer; after = s }
  pub unwritten : (t p : ℕ) → right_in s t p < writing → perform s (lock_write t p) ≡ record { answer = right_first (plain_write s t p).answer; after = s }

-- of every store
abbrev pub LocksAsBefore : Type 0
LocksAsBefore = (s : Areas) → PlainLocks s

-- the ledger of locks, by transaction and page: who was let read and who was let write, and has not ended
pub record Granted : Type 0 where
  pub reads : ℕ → ℕ → Bool
  pub writes : ℕ → ℕ → Bool

-- nobody has a page
abbrev pub nothing : Granted
nothing = record { reads = λ u q. false; writes = λ u q. false }

-- one entry more
abbrev pub entered : (ℕ → ℕ → Bool) → ℕ → ℕ → ℕ → ℕ → Bool
entered tab t p u q = tab u q || (eqb u t && eqb q p)

-- 'Locks fall at commit or abort.'
abbrev pub fallen : Granted → ℕ → Granted
fallen l t = record { reads = λ u q. not (eqb u t) && l.reads u q; writes = λ u q. not (eqb u t) && l.writes u q }

-- after an accepted call; reopening: 'no transaction, lock, .. remains'; going back: '.. locks are kept'
abbrev pub granting : Granted → Call → Granted
granting l (begin t c) = l
granting l (commit t) = fallen l t
granting l (abort t) = fallen l t
granting l (grant c p r) = l
granting l (lock_read t p) = record { reads = entered l.reads t p; writes = l.writes }
granting l (lock_write t p) = record { reads = l.reads; writes = entered l.writes t p }
granting l (read t o buffer) = l
granting l (create t o) = l
granting l (set_word t o f v) = l
granting l (flush t p image) = l
granting l force = l
granting l (store p) = l
granting l empty = l
granting l pass = l
granting l step = l
granting l reopen = nothing
granting l restep = l
granting l (mark t m) = l
granting l (back t m) = l
granting l (look q) = l

-- a cut leaves no lock; the pages do not matter
abbrev pub grants : Ledger Granted
grants = record { first = nothing; enters = λ l c r. granting l c; drops = λ l. nothing }

-- u was let lock the page, to read it or to write it
abbrev pub holds : Granted → ℕ → ℕ → Bool
holds l u p = l.reads u p || l.writes u p

-- u is another than t, and f holds of it
abbrev pub other : ℕ → (ℕ → Bool) → ℕ → Bool
other t f u = not (eqb u t) && f u

-- t runs, by the book
abbrev pub Running : Point → ℕ → Type 0
Running q t = q.book.running t ≡ 0 → ⊥

-- what the ledgers have t answered that needs a right, barred by those of which f holds: 'A writer excludes all others', and the lowest is
-- told; but 19 comes first
unfoldable pub answer_by : Granted × Permits → ℕ → ℕ → ℕ → (ℕ → Bool) → Answer
answer_by l t p right f =
    let h = Err (Held (lowest (other t (λ u. holds l.0 u p)) txn_count)) in
    let a = if (any (other t f) txn_count) h (Ok 0) in
    if (leb right (right_of l.1 t p)) a (Err RightMissing)

-- at a point of a list, by the ledgers of locks and of rights, and the book
pub record ByLedger (q : Point) (l : Granted × Permits) : Type 0 where
  -- what a running transaction is answered: 19 exactly where its client lacks the right, else 6 exactly where another's lock is in the way,
  -- and whom it tells
  pub reads : (t p : ℕ) → Running q t → p < pages q.store → (perform q.store (lock_read t p)).answer ≡ answer_by l t p reading (λ u. l.0.writes u p)
  pub writes : (t p : ℕ) → Running q t → p < pages q.store → (perform q.store (lock_write t p)).answer ≡ answer_by l t p writing (λ u. holds l.0 u p)
  -- whom refusal 6 tells: one that was let lock the page and runs, the lowest other one
  pub told_reading : (t p h : ℕ) → Barred q.store (lock_read t p) h → Lowest (λ u. holds l.0 u p) t h
  pub told_writing : (t p h : ℕ) → Barred q.store (lock_write t p) h → Lowest (λ u. holds l.0 u p) t h
  pub runs : (u p : ℕ) → holds l.0 u p ≡ true → Running q u
  -- of a lock for reading it is the page's writer, and nobody else has the page
  pub writer : (t p h : ℕ) → Barred q.store (lock_read t p) h → l.0.writes h p ≡ true
  pub alone : (u v p : ℕ) → l.0.writes u p ≡ true → holds l.0 v p ≡ true → v ≡ u

abbrev pub AlwaysByLedger : Type 0
AlwaysByLedger = AlwaysKept (Granted × Permits) (both grants permits) ByLedger
