-- Demand 3, as one statement over every list of calls and cuts from a freshly formatted store on. Assumes nothing.
use Rattle.std.specs.Prelude.{ℕ, ◌≤◌, ◌≡◌, Bool, true, not, ◌&&◌, List, [], ◌∷◌}
use Rattle.words.specs.Tests.{if}
use Rattle.pages.specs.Geometry.{is_object, max_pages}
use Rattle.pages.specs.Objects.{occupied, formatted_pages}
use Rattle.records.specs.Records.{max_records}
use Rattle.areas.specs.Answers.{accepted}
use Rattle.areas.specs.Areas.{Areas}
use Rattle.areas.specs.Entry.{reopening}
use Rattle.calls.specs.Formatting.{formatted, cut}
use Rattle.calls.specs.Calls.{Call, step, restep, perform}
use Rattle.book.specs.Books.{opened, awaiting, storing, Book, blank, committed_lines, full_lines, committed_pages, full_pages, stopped}
use Rattle.book.specs.Feeding.{fed}
use Rattle.book.specs.Pointers.{Leads}
use Rattle.reach.specs.Reaching.{Reached}

-- 'Take any list of calls .. and of power cuts'. A cut in a call acts on what stood at its entry (the call is not in the list) or at its exit
-- (the call stands before the cut).
pub data Event : Type 0 where
  call : Call → Event
  power : Event

-- the store and its book
pub record Point : Type 0 where
  pub store : Areas
  pub book : Book

-- the call is accepted where the store stands
abbrev pub accepts : Point → Call → Bool
accepts q c = accepted (perform q.store c).answer

-- 'Refused calls change nothing.' The areas are those that the call or the cut leaves; the book is fed accepted calls only.
unfoldable pub after : ℕ → Point → Event → Point
after n q (call c) = let s = (perform q.store c).after in
    let b = fed n q.book c q.store.received s.received in
    record { store = s; book = if (accepts q c) b q.book }
after n q power = record { store = cut q.store; book = stopped awaiting q.book }

-- 'a freshly formatted store'
abbrev pub start : ℕ → ℕ → Point
start n l = record { store = formatted n l; book = blank (formatted_pages n) }

-- object o's slot is cleared in the received maps by the call
abbrev pub reclaims : ℕ → Point → Call → ℕ → Bool
reclaims n q c o = is_object n o && occupied q.store.received o && not (occupied (perform q.store c).after.received o)

-- 'no sweep in it reclaimed a service record that the committed state then reached from the root, or that a running transaction had come
-- to know': of a pass step
pub record Spares (n : ℕ) (q : Point) : Type 0 where
  pub reached : (o : ℕ) → accepts q step ≡ true → reclaims n q step o ≡ true → Reached (committed_pages q.book) o → ⊥
  pub known : (t o : ℕ) → accepts q step ≡ true → reclaims n q step o ≡ true → (q.book.running t ≡ 0 → ⊥) → q.book.known t o ≡ true → ⊥

-- 'that step leaves the committed state in all three page areas': the last reopening step, after all n pages were stored
pub record Reopens (n : ℕ) (q : Point) : Type 0 where
  pub stored : accepts q restep ≡ true → q.book.stage ≡ storing n → (perform q.store restep).after.stored ≡ committed_pages q.book
  pub copies : accepts q restep ≡ true → q.book.stage ≡ storing n → (perform q.store restep).after.copies ≡ committed_pages q.book
  pub received : accepts q restep ≡ true → q.book.stage ≡ storing n → (perform q.store restep).after.received ≡ committed_pages q.book

-- what holds wherever the list stands, whatever call comes next
pub record Holds (n : ℕ) (q : Point) : Type 0 where
  -- 'the received pages equal the full pages, except from a cut or accepted reopen to the last reopening step'
  pub shown : q.book.stage ≡ opened → q.store.received ≡ full_pages q.book
  -- the store takes calls only where the book has no reopening to await
  pub finished : reopening q.store ≡ 2 → q.book.stage ≡ opened
  -- 'each pointer in a reachable record leads to the record it was written for', in the committed state and in the full pages
  pub committed : Leads (committed_pages q.book) (committed_lines q.book)
  pub full : Leads (full_pages q.book) (full_lines q.book)
  pub spares : Spares n q
  pub reopens : Reopens n q

-- at every point of the list, the last too
pub data Throughout (n : ℕ) : Point → List Event → Type 0 where
  last : {q : Point} → Holds n q → Throughout n q []
  then : {q : Point} {e : Event} {es : List Event} → Holds n q → Throughout n (after n q e) es → Throughout n q (e ∷ es)

-- 'For every such list, by document 01's book of it': every number of pages and of log records
abbrev pub Demand3 : Type 0
Demand3 = (n l : ℕ) → 1 ≤ n → n ≤ max_pages → 1 ≤ l → l ≤ max_records → (es : List Event) → Throughout n (start n l) es
