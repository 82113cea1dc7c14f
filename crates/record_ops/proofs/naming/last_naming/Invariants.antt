use Prim.Native.Nat.{◌≤◌, ◌-◌}
use Rattle.record_ops.specs.Naming.{NamedPast}
use Rattle.record_ops.proofs.naming.last_naming.Given as goal

abbrev pub invariant-loop-i : goal.invariant-loop-i
invariant-loop-i l = (l.a ≤ l.i) × (l.i ≤ l.c) × NamedPast l.log l.a l.i l.last

abbrev pub decreases-loop-i : goal.decreases-loop-i
decreases-loop-i l = l.c - l.i
