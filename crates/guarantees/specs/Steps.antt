-- Document 02, L4: how long a pass takes, over lists, by a tally of its steps that is kept from the list alone. Assumes nothing.
use Rattle.std.specs.Prelude.{ℕ, suc, ◌+◌, ◌-◌, ◌≤◌, ◌<◌, ◌≡◌, true, false, Err}
use Rattle.words.specs.Tests.{count}
use Rattle.pages.specs.Geometry.{object_count}
use Rattle.areas.specs.declared.Refusal.TheVariants.{WrongState, LogFull}
use Rattle.areas.specs.Areas.{Areas}
use Rattle.areas.specs.Layout.{pass_page_at, steps_at}
use Rattle.areas.specs.Tables.{at, pass_runs, is_marking, is_black, pass_first, pass_pages}
use Rattle.areas.specs.Entry.{pages}
use Rattle.calls.specs.PassShares.{pass_bound}
use Rattle.calls.specs.Calls.{Call, perform, begin, commit, abort, grant, lock_read, lock_write, read, create, set_word, flush, force, store, empty, pass, step, reopen, restep, mark, back, look}
use Rattle.book.specs.Books.{opened}
use Rattle.book.specs.Demand.{Point, accepts}
use Rattle.guarantees.specs.Ledgers.{Ledger, AlwaysKept}

-- what an accepted call is to a pass
pub data Part : Type 0 where
  starts steps stops commits other : Part

-- 'a reopening ends it early'; 'whatever calls come between'
abbrev pub part_of : Call → Part
part_of (begin t c) = other
part_of (commit t) = commits
part_of (abort t) = other
part_of (grant c p r) = other
part_of (lock_read t p) = other
part_of (lock_write t p) = other
part_of (read t o buffer) = other
part_of (create t o) = other
part_of (set_word t o f v) = other
part_of (flush t p image) = other
part_of force = other
part_of (store p) = other
part_of empty = other
part_of pass = starts
part_of step = steps
part_of reopen = stops
part_of restep = other
part_of (mark t m) = other
part_of (back t m) = other
part_of (look q) = other

-- the accepted steps since the last start, or since what ended it early
abbrev pub tallied : ℕ → Part → ℕ
tallied l starts = 0
tallied l steps = suc l
tallied l stops = 0
tallied l commits = l
tallied l other = l

-- 'A step refused for log room is not counted': no refused call is. A cut ends the pass, and a reopening follows it
abbrev pub tally : Ledger ℕ
tally = record { first = 0; enters = λ l c r. tallied l (part_of c); drops = λ l. 0 }

-- the pages that a pass of the store covers
abbrev pub covered_in : Areas → ℕ
covered_in s = pass_pages s.work (pages s)

-- the bound, by the pages that the pass covers
abbrev pub bound_at : Point → ℕ
bound_at q = pass_bound (covered_in q.store)

-- a scanned object is black
abbrev pub scanned_at : Point → ℕ
scanned_at q = count (λ k. is_black q.store.work (pages q.store) (k + 1)) (object_count (pages q.store))

-- the pages before the one that is swept next
abbrev pub swept_at : Point → ℕ
swept_at q = at q.store.work pass_page_at - pass_first q.store.work (pages q.store)

-- at a point of a list, with the tally as it then is
pub record Tallied (q : Point) (l : ℕ) : Type 0 where
  -- 'A pass ends after at most 17 × P + 1 accepted steps': from one start to the next there are no more
  pub most : l ≤ bound_at q
  -- 'The step number kept with the pass must equal the steps of document 01 taken since its start', and it is below the bound
  pub kept : pass_runs q.store.work ≡ true → at q.store.work steps_at ≡ l
  pub below : pass_runs q.store.work ≡ true → l < bound_at q
  -- where none runs it is 0
  pub rests : pass_runs q.store.work ≡ false → at q.store.work steps_at ≡ 0
  -- '16 × P objects scanned, one turn, P pages'
  pub scanned : is_marking q.store.work ≡ true → l ≡ scanned_at q
  pub swept : pass_runs q.store.work ≡ true → is_marking q.store.work ≡ false → l ≡ scanned_at q + 1 + swept_at q
  -- so a step that reaches the bound ends the pass, and the next one is refused with 4
  pub ends : accepts q step ≡ true → l + 1 ≡ bound_at q → pass_runs (perform q.store step).after.work ≡ false
  pub over : q.book.stage ≡ opened → l ≡ bound_at q → (perform q.store step).answer ≡ Err WrongState
  -- before that nothing holds a step up but log room
  pub stalls : pass_runs q.store.work ≡ true → accepts q step ≡ false → (perform q.store step).answer ≡ Err LogFull

abbrev pub AlwaysTallied : Type 0
AlwaysTallied = AlwaysKept ℕ tally Tallied
