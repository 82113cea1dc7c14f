-- A ledger that is kept from the list: it sees the calls, whether each was accepted, the cuts, and the received pages that a call finds,
-- and no other word of the store. Assumes nothing.
use Rattle.std.specs.Prelude.{ℕ, ◌≤◌, List, [], ◌∷◌}
use Rattle.words.specs.Tests.{if}
use Rattle.pages.specs.Geometry.{max_pages}
use Rattle.records.specs.Records.{max_records}
use Rattle.areas.specs.Areas.{Areas}
use Rattle.areas.specs.Entry.{pages}
use Rattle.calls.specs.Calls.{Call}
use Rattle.book.specs.Demand.{Event, call, power, Point, accepts, after, start}
use Rattle.guarantees.specs.Disks.{from_disk, Disk}

-- what it starts with, and what an accepted call, with the received pages that it finds, and a cut make of it
pub record Ledger (L : Type 0) : Type 0 where
  pub first : L
  pub enters : L → Call → List ℕ → L
  pub drops : L → L

-- 'Refused calls change nothing.'
unfoldable pub kept : {L : Type 0} → Ledger L → Point → L → Event → L
kept g q l (call c) = let k = g.enters l c q.store.received in if (accepts q c) k l
kept g q l power = g.drops l

-- two ledgers side by side
abbrev pub both : {L M : Type 0} → Ledger L → Ledger M → Ledger (L × M)
both g h = record {
  first = (g.first, h.first);
  enters = λ l c r. (g.enters l.0 c r, h.enters l.1 c r);
  drops = λ l. (g.drops l.0, h.drops l.1);
}

-- at every point of the list, the last too, with the ledger as it then is
pub data AtEveryKept (n : ℕ) (L : Type 0) (g : Ledger L) (Q : Point → L → Type 0) : Point → L → List Event → Type 0 where
  last : {q : Point} {l : L} → Q q l → AtEveryKept n L g Q q l []
  then : {q : Point} {l : L} {e : Event} {es : List Event} → Q q l → AtEveryKept n L g Q (after n q e) (kept g q l e) es → AtEveryKept n L g Q q l (e ∷ es)

-- a claim of every point of every list, as `Always` has it, and of a ledger
pub record AlwaysKept (L : Type 0) (g : Ledger L) (Q : Point → L → Type 0) : Type 0 where
  pub formatted : (n l : ℕ) → 1 ≤ n → n ≤ max_pages → 1 ≤ l → l ≤ max_records → (es : List Event) → AtEveryKept n L g Q (start n l) g.first es
  pub disk : (s : Areas) → Disk s → (es : List Event) → AtEveryKept (pages s) L g Q (from_disk s) g.first es
