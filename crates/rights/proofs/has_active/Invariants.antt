use Prim.Native.Nat.{◌≤◌, ◌-◌}
use mathlib.Core.Path.{◌≡◌}
use Rattle.records.specs.Records.{txn_count}
use Rattle.rights.specs.Checks.{active_below}
use Rattle.rights.proofs.has_active.Given as goal

abbrev pub invariant-loop-t : goal.invariant-loop-t
invariant-loop-t l = (l.t ≤ txn_count) × (l.found ≡ active_below l.w l.n l.c l.t)

abbrev pub decreases-loop-t : goal.decreases-loop-t
decreases-loop-t l = txn_count - l.t
