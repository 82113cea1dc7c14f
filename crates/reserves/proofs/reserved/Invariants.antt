use Prim.Native.Nat.{◌+◌, ◌*◌, ◌≤◌, ◌-◌}
use mathlib.Core.Path.{◌≡◌}
use Rattle.records.specs.Records.{max_records, txn_count}
use Rattle.records.specs.Changes.{noted, reserve_of}
use Rattle.words.specs.Tests as tests
use Rattle.reserves.proofs.reserved.Given as goal

abbrev pub invariant-loop-t : goal.invariant-loop-t
invariant-loop-t l = (l.t ≤ txn_count) × (l.sum ≤ (max_records + 1) * l.t) × (l.sum ≡ tests.sum (reserve_of (noted l.work l.from) l.log l.c l.active) l.t)

abbrev pub decreases-loop-t : goal.decreases-loop-t
decreases-loop-t l = txn_count - l.t
