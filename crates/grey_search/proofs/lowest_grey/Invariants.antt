use Prim.Native.Nat.{◌-◌, ◌≤◌}
use Rattle.grey_search.specs.Greys.{none_grey}
use Rattle.pages.specs.Geometry.{object_count}
use mathlib.Core.Path.{◌≡◌}
use Rattle.grey_search.proofs.lowest_grey.Given as goal

abbrev pub invariant-loop-k : goal.invariant-loop-k
invariant-loop-k l = (l.k ≤ object_count l.n) × (l.k-end ≡ object_count l.n) × none_grey l.work l.n l.k

abbrev pub decreases-loop-k : goal.decreases-loop-k
decreases-loop-k l = object_count l.n - l.k
