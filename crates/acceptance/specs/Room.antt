-- Document 01, 'Room', in numbers. Assumes nothing.
use Rattle.std.specs.Prelude.{ℕ, ◌+◌, ◌≤◌, ◌≡◌, true}
use Rattle.std.proofs.Common.{leb-true}
use Rattle.records.specs.Changes.{reserved}
use Rattle.areas.specs.Areas.{Areas, received_count}
use Rattle.areas.specs.Layout.{active_at}
use Rattle.areas.specs.Tables.{at, undoes}
use Rattle.areas.specs.Entry.{records}
use Rattle.calls.specs.Room.{room_beyond}

-- 'Begin, create and set need 2 beyond used and reserved, a sweep 1', in a store of n pages
abbrev pub Room : Areas → ℕ → ℕ → Type 0
Room s n k = received_count s + reserved (undoes s.work n) s.log (received_count s) (at s.work active_at) + k ≤ records s

pub room_facts : (s : Areas) (n k : ℕ) → room_beyond s n k ≡ true → Room s n k
unfolding room_beyond
room_facts s n k h = leb-true _ _ h
