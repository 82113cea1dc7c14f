use mathlib.Core.Path.{◌≡◌}
use Prim.Native.Nat.{◌≤◌}
use lib.ListN.{length}
use Rattle.records.specs.Recovery.{undone_in}
use Rattle.log_replay.proofs.making.undo.Given as goal

abbrev pub invariant-loop-i : goal.invariant-loop-i
invariant-loop-i l = (l.i ≤ l.c) × (length l.a ≡ length l.initial.a) × (undone_in l.log l.left l.i l.a ≡ undone_in l.log l.m l.c l.initial.a)
