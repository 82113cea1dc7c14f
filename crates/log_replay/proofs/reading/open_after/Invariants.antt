use Prim.Native.Nat.{◌≤◌}
use mathlib.Core.Bool.{true}
use mathlib.Core.Path.{◌≡◌}
use Rattle.records.specs.Order.{open_in}
use Rattle.log_replay.specs.Reading.{ordered}
use Rattle.log_replay.proofs.reading.open_after.Given as goal

abbrev pub invariant-loop-i : goal.invariant-loop-i
invariant-loop-i l = (l.i ≤ l.c) × (ordered l.log l.i ≡ true) × (l.begun ≡ open_in l.log l.i)
