-- Invariant: the four columns have no fault where the slots passed are sound. Assumes nothing.
use Prim.Native.Nat.{◌≤◌, ◌-◌}
use mathlib.Core.Path.{◌≡◌}
use Rattle.words.specs.Tests.{all}
use Rattle.page_check.specs.SoundLaws.{none_of_four, slot_sound}
use Rattle.pages.specs.Geometry.{slot_count}
use Rattle.page_check.proofs.sound.slot_faults.Given as goal

abbrev pub invariant-loop-s : goal.invariant-loop-s
invariant-loop-s l = (l.s ≤ slot_count) × (none_of_four l.f0 l.f1 l.f2 l.f3 ≡ all (slot_sound l.a l.top l.p) l.s)

abbrev pub decreases-loop-s : goal.decreases-loop-s
decreases-loop-s l = slot_count - l.s
