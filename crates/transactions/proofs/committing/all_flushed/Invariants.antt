use Prim.Native.Nat.{◌≤◌, ◌-◌}
use Rattle.areas.specs.Layout.{unflushed_at}
use Rattle.areas.specs.Tables.{has}
use Rattle.words.specs.Tests.{all}
use mathlib.Core.Bool.{true, not}
use mathlib.Core.Path.{◌≡◌}
use Rattle.transactions.proofs.committing.all_flushed.Given as goal

abbrev pub invariant-loop-p : goal.invariant-loop-p
invariant-loop-p l = (l.p ≤ l.n) × (all (λ q. not (has l.work (unflushed_at l.n q) l.t)) l.p ≡ true)

abbrev pub decreases-loop-p : goal.decreases-loop-p
decreases-loop-p l = l.n - l.p
