use Prim.Native.Nat.{◌-◌, ◌≤◌}
use Rattle.pass_start.specs.Starting.{first_colours}
use Rattle.pages.specs.Geometry.{object_count}
use lib.ListN.{length}
use mathlib.Core.Path.{◌≡◌}
use Rattle.pass_start.proofs.colour_first.Given as goal

abbrev pub invariant-loop-k : goal.invariant-loop-k
invariant-loop-k l = (l.k ≤ object_count l.n) × (l.k-end ≡ object_count l.n) × (length l.work ≡ length l.initial.work) × (l.work ≡ first_colours l.initial.work l.n l.k)

abbrev pub decreases-loop-k : goal.decreases-loop-k
decreases-loop-k l = object_count l.n - l.k
