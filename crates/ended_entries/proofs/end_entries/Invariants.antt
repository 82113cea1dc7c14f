use Prim.Native.Nat.{◌≤◌, ◌*◌, ◌/◌, ◌-◌}
use mathlib.Core.Bool.{true}
use mathlib.Core.Path.{◌≡◌}
use lib.ListN.{length}
use Rattle.words.specs.Spans.{over}
use Rattle.pages.specs.Geometry.{slot_count}
use Rattle.calls.specs.Transactions.{ended_entry}
use Rattle.ended_entries.proofs.end_entries.Given as goal

abbrev pub invariant-loop-j : goal.invariant-loop-j
invariant-loop-j l = (l.j ≤ l.k / slot_count) × (length l.w ≡ length l.initial.w) × (l.w ≡ over (ended_entry true l.t) l.initial.w l.a (slot_count * l.j))

abbrev pub decreases-loop-j : goal.decreases-loop-j
decreases-loop-j l = l.k / slot_count - l.j
