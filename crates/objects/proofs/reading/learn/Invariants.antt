use Prim.Native.Nat.{◌≤◌, ◌-◌}
use Rattle.calls.specs.Objects.{learned}
use Rattle.pages.specs.Geometry.{slot_words}
use lib.ListN.{length}
use mathlib.Core.Path.{◌≡◌}
use Rattle.objects.proofs.reading.learn.Given as goal

abbrev pub invariant-loop-f : goal.invariant-loop-f
invariant-loop-f l = (l.f ≤ slot_words) × (length l.work ≡ length l.initial.work) × (l.work ≡ learned l.received l.initial.work l.n l.t l.o l.f)

abbrev pub decreases-loop-f : goal.decreases-loop-f
decreases-loop-f l = slot_words - l.f
