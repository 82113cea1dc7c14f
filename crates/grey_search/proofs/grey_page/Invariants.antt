use Prim.Native.Nat.{◌*◌, ◌-◌, ◌≤◌}
use Rattle.grey_search.specs.Greys.{none_grey}
use Rattle.pages.specs.Geometry.{slot_count}
use Rattle.grey_search.proofs.grey_page.Given as goal

abbrev pub invariant-loop-p : goal.invariant-loop-p
invariant-loop-p l = (l.p ≤ l.n) × none_grey l.work l.n (slot_count * l.p)

abbrev pub decreases-loop-p : goal.decreases-loop-p
decreases-loop-p l = l.n - l.p
