-- Invariant: the objects passed are in the queue. Assumes nothing.
use Prim.Native.Nat.{◌-◌}
use Rattle.pages.specs.Geometry.{object_count, max_pages}
use Rattle.chain_trace.proofs.Trailing.{Trail}
use Rattle.chain_trace.proofs.trace.trace.Given as goal

abbrev pub invariant-loop-x : goal.invariant-loop-x
invariant-loop-x l = Trail l.from l.o l.queue l.x l.d

abbrev pub decreases-loop-x : goal.decreases-loop-x
decreases-loop-x l = object_count max_pages - l.d
