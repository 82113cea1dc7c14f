use Prim.Native.Nat.{◌+◌, ◌*◌, ◌-◌, ◌≤◌}
use Rattle.grey_search.specs.Greys.{none_grey}
use Rattle.pages.specs.Geometry.{slot_count}
use mathlib.Core.Path.{◌≡◌}
use Rattle.grey_search.proofs.page_greys.Given as goal

abbrev pub invariant-loop-k : goal.invariant-loop-k
invariant-loop-k l = (l.k ≤ slot_count) × (l.greys ≡ 0 → none_grey l.work l.n (slot_count * l.p + l.k))

abbrev pub decreases-loop-k : goal.decreases-loop-k
decreases-loop-k l = slot_count - l.k
