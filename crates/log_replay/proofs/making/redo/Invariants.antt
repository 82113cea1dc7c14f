use mathlib.Core.Path.{◌≡◌}
use Prim.Native.Nat.{◌≤◌}
use lib.ListN.{length}
use Rattle.records.specs.Recovery.{redone}
use Rattle.log_replay.proofs.making.redo.Given as goal

abbrev pub invariant-loop-i : goal.invariant-loop-i
invariant-loop-i l = (l.i ≤ l.c) × (length l.a ≡ length l.initial.a) × (l.a ≡ redone l.initial.a l.log l.i)
