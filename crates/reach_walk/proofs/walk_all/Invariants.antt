-- Invariant: the objects of the queue before head are followed, and the root is marked. Assumes nothing.
use Prim.Native.Nat.{◌≤◌, ◌-◌}
use Rattle.pages.specs.Geometry as geometry
use Rattle.pages.specs.Geometry.{object_count}
use Rattle.reach_walk.specs.Walk.{Marked, Consistent, PagesOf, Entry}
use Rattle.reach_walk.proofs.Following.{DoneTo}
use Rattle.reach_walk.proofs.walk_all.Given as goal

abbrev pub invariant-loop-head : goal.invariant-loop-head
invariant-loop-head l = PagesOf l.pages l.n × Consistent (Entry l.pages) l.n l.walk × (l.head ≤ l.walk.tail) × Marked l.walk geometry.root × DoneTo l.pages l.walk l.head

abbrev pub decreases-loop-head : goal.decreases-loop-head
decreases-loop-head l = object_count l.n - l.head
