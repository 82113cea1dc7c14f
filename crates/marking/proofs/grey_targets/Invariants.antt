use Prim.Native.Nat.{◌-◌, ◌≤◌}
use Rattle.calls.specs.Pass.{targets_greyed}
use Rattle.pages.specs.Geometry.{slot_words}
use lib.ListN.{length}
use mathlib.Core.Path.{◌≡◌}
use Rattle.marking.proofs.grey_targets.Given as goal

abbrev pub invariant-loop-f : goal.invariant-loop-f
invariant-loop-f l = (l.f ≤ slot_words) × (length l.work ≡ length l.initial.work) × (l.work ≡ targets_greyed l.copies l.initial.work l.n l.o l.f)

abbrev pub decreases-loop-f : goal.decreases-loop-f
decreases-loop-f l = slot_words - l.f
