use Rattle.areas.specs.Layout.{mark_count}
use Rattle.calls.specs.Marks.{dropped}
use mathlib.Core.Path.{◌≡◌}
use Prim.Native.Nat.{◌≤◌, ◌-◌}
use lib.ListN.{length}
use Rattle.going_back.proofs.drop_later.Given as goal

abbrev pub invariant-loop-j : goal.invariant-loop-j
invariant-loop-j l = (l.j ≤ mark_count) × (length l.work ≡ length l.initial.work) × (l.work ≡ dropped l.initial.work l.n l.t l.a l.j)

abbrev pub decreases-loop-j : goal.decreases-loop-j
decreases-loop-j l = mark_count - l.j
