-- What the held calls require, and what lets a server start again. Assumes nothing.
use Rattle.std.specs.Prelude.{◌≡◌, true}
use Rattle.areas.specs.Entry.{well_formed}
use Rattle.book.specs.Demand.{Point}
use Rattle.guarantees.specs.Disks.{Disk}
use Rattle.guarantees.specs.Points.{Always}

-- the one requirement of a held call, its own buffer's length aside
abbrev pub Holdable : Point → Type 0
Holdable q = well_formed true q.store ≡ true

-- at every point of every list, from a formatted store and from a disk
abbrev pub AlwaysHoldable : Type 0
AlwaysHoldable = Always Holdable

-- what a power cut would leave is a disk to start from
abbrev pub Restartable : Point → Type 0
Restartable q = Disk q.store

-- at every point of every list
abbrev pub AlwaysRestartable : Type 0
AlwaysRestartable = Always Restartable
