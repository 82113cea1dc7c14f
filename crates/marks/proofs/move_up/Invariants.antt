use Rattle.words.specs.Spans.{over}
use Rattle.areas.specs.Layout.{mark_count}
use Rattle.calls.specs.Marks.{moved_up}
use Rattle.marks.specs.Places.{set_but}
use mathlib.Core.Path.{◌≡◌}
use Prim.Native.Nat.{◌≤◌, ◌-◌}
use lib.ListN.{length}
use Rattle.marks.proofs.move_up.Given as goal

abbrev pub invariant-loop-j : goal.invariant-loop-j
invariant-loop-j l = (l.j ≤ mark_count) × (length l.work ≡ length l.initial.work) × (l.work ≡ over (moved_up l.a) l.initial.work l.i l.j) × (l.others ≡ set_but l.initial.work l.i l.m l.j)

abbrev pub decreases-loop-j : goal.decreases-loop-j
decreases-loop-j l = mark_count - l.j
