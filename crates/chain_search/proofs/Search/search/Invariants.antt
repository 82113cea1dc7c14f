-- Invariant: the objects before head were taken. Assumes nothing.
use Prim.Native.Nat.{◌-◌, ◌≤◌}
use Rattle.pages.specs.Geometry.{object_count, max_pages}
use Rattle.chain_search.specs.Following.{Shows}
use Rattle.chain_search.proofs.Search.search.Given as goal

abbrev pub invariant-loop-head : goal.invariant-loop-head
invariant-loop-head l = (l.head ≤ l.self.tail) × Shows l.copies l.n l.head l.self.from l.self.queue l.self.tail

abbrev pub decreases-loop-head : goal.decreases-loop-head
decreases-loop-head l = object_count max_pages - l.head
