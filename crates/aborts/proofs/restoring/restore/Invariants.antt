use mathlib.Core.Path.{◌≡◌}
use Prim.Native.Nat.{◌≤◌, ◌-◌}
use lib.ListN.{length}
use Rattle.calls.specs.Transactions.{restored}
use Rattle.aborts.proofs.restoring.restore.Given as goal

abbrev pub invariant-loop-p : goal.invariant-loop-p
invariant-loop-p l = (l.p ≤ l.n) × (length l.copies ≡ length l.initial.copies) × (l.copies ≡ restored l.work l.n l.t l.received l.initial.copies l.p)

abbrev pub decreases-loop-p : goal.decreases-loop-p
decreases-loop-p l = l.n - l.p
