use Prim.Native.Nat.{◌-◌, ◌≤◌}
use Rattle.calls.specs.Pass.{unmarked}
use Rattle.pages.specs.Geometry.{slot_count}
use Rattle.words.specs.Bits.{map_of}
use mathlib.Core.Path.{◌≡◌}
use Rattle.sweep_maps.proofs.unmarked_map.Given as goal

abbrev pub invariant-loop-s : goal.invariant-loop-s
invariant-loop-s l = (l.s ≤ slot_count) × (l.m ≡ map_of (unmarked l.work l.n l.p) l.s)

abbrev pub decreases-loop-s : goal.decreases-loop-s
decreases-loop-s l = slot_count - l.s
