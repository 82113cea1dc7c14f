use Prim.Native.Nat.{◌≤◌}
use Rattle.records.specs.Changes.{noted}
use Rattle.reserves.specs.Reserves.{WalkedTo}
use Rattle.reserves.proofs.walk_down.Given as goal

abbrev pub invariant-loop-i : goal.invariant-loop-i
invariant-loop-i l = (l.i ≤ l.c) × WalkedTo (noted l.work l.from) l.log l.mask l.c l.i l.sought l.changes l.undone

abbrev pub decreases-loop-i : goal.decreases-loop-i
decreases-loop-i l = l.i
